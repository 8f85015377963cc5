-- What is written tells itself again.
-- Assumes nothing.
use mathlib.Core.Path.{◌≡◌, refl, ap, ◌∙◌}
use mathlib.Core.List.{List, [], ◌∷◌, ◌++◌, append_assoc, append-nil}
use mathlib.Core.Bool.{Bool, true, false, not, ◌&&◌, ◌||◌}
use Prim.Native.Nat.{ℕ, zero, suc, ◌+◌, ◌-◌, ◌*◌, ◌^◌, ◌≤◌}
use native.Mathlib.Nat.{pow-le-pow_right, zero-add, add-zero}
use native.Mathlib.Omega.{arith}
use borrow.Author.Tests.{not-true, le-leb}
use lib.Dec.{eqb}
use lib.ListN.{length, take}
use Rattle.cells.specs.Spans.{all, leading}
use Rattle.cells.specs.Decimal.{decimal, value_after}
use Rattle.names.specs.Extra.{comma, extra_names}
use Rattle.structured.specs.Texts.{SP, quote, backslash, closing, escaped, string, further, strings}
use Rattle.structured.specs.Lists.{every}
use Rattle.structured.specs.Reading.{unescaped_after, unescaped, unlisted, digit, last_integer, digits_in}
use Rattle.cells.proofs.Tests.{tested, both}
use Rattle.cells.proofs.Spans.{leading_append}
use Rattle.cells.proofs.Digits.{Digits, one, ◌then◌, decimal_digits, decimal_length, value_decimal}
use Rattle.names.proofs.Has.{neither}
use Rattle.names.proofs.Joined.{rejoined, names_in_joined}
use Rattle.structured.proofs.Texts.{plain_byte, plain, plain_kept, escaped_plain}
use Rattle.structured.proofs.Steps.{digit_range}

pub unescaped_escaped : (t : List ℕ) → unescaped (escaped t) ≡ t
unfolding unescaped unescaped_after escaped
unescaped_escaped [] = refl
unescaped_escaped (b ∷ bs) =
    let more = unescaped_escaped bs in
    tested (eqb b quote || eqb b backslash) (λ e. rw e (ap (λ (l : List ℕ). b ∷ l) more))
    (λ e. rw (e, (neither (eqb b quote) (eqb b backslash) e).1) (ap (λ (l : List ℕ). b ∷ l) more))

-- plain bytes stay, and a plain string loses its quotes
unlisted_plain : (t rest : List ℕ) → plain t ≡ true → unlisted (t ++ rest) ≡ t ++ unlisted rest
unfolding unlisted all
unlisted_plain [] rest h = refl
unlisted_plain (b ∷ bs) rest h =
    let parts = both (plain_byte b) (plain bs) h in
    let here = both (not (eqb b quote || eqb b backslash)) (not (eqb b SP) && not (eqb b closing)) parts.0 in
    let kept = neither (eqb b quote) (eqb b backslash) (plain_kept b parts.0) in
    let other = both (not (eqb b SP)) (not (eqb b closing)) here.1 in
    rw (kept.0, not-true (eqb b SP) other.0, unlisted_plain bs rest parts.1)

unlisted_string : (t rest : List ℕ) → plain t ≡ true → unlisted (string t ++ rest) ≡ t ++ unlisted rest
unfolding string unlisted
unlisted_string t rest h = rw (escaped_plain t h, append_assoc t (quote ∷ []) rest) (unlisted_plain t (quote ∷ rest) h)

unlisted_joined : (ts : List (List ℕ)) → every plain ts ≡ true → unlisted (strings ts) ≡ rejoined ts
unfolding strings further every unlisted
unlisted_joined [] h = refl
unlisted_joined (t ∷ []) h = unlisted_string t [] (both (plain t) true h).0 ∙ append-nil t
unlisted_joined (t ∷ u ∷ ts) h =
    let parts = both (plain t) (every plain (u ∷ ts)) h in
    unlisted_string t (SP ∷ strings (u ∷ ts)) parts.0 ∙ ap (λ (l : List ℕ). t ++ (comma ∷ l)) (unlisted_joined (u ∷ ts) parts.1)

pub unlisted_strings : (run : List ℕ) → every plain (extra_names run) ≡ true → unlisted (strings (extra_names run)) ≡ run
unfolding extra_names
unlisted_strings [] h = unlisted_joined [] h
unlisted_strings (b ∷ bs) h = unlisted_joined (extra_names (b ∷ bs)) h ∙ names_in_joined (b ∷ bs)

all_digits : {ds : List ℕ} → Digits ds → all digit ds ≡ true
unfolding all
all_digits (one {d} l u) = rw (le-leb 48 d l, le-leb d 57 u)
all_digits (◌then◌ {d} b ds) = rw (le-leb 48 d b.0, le-leb d 57 b.1) (all_digits ds)

-- where no more than k pass at the front, the first k elements show them
leading_take : (p : ℕ → Bool) (k : ℕ) (xs : List ℕ) → leading p xs ≤ k → leading p (take k xs) ≡ leading p xs
unfolding leading
leading_take p zero xs h = omega arith
leading_take p (suc k) [] h = refl
leading_take p (suc k) (x ∷ xs) h =
    tested (p x) (λ e. rw e (ap suc (leading_take p k xs (omega (arith, rw e at h))))) (λ e. rw e)

pub decimal_all : (n : ℕ) → all digit (decimal n) ≡ true
decimal_all n = all_digits (decimal_digits n)

pub decimal_read : (n : ℕ) → n ≤ last_integer → (rest : List ℕ) → (b : ℕ) → digit b ≡ false
    → (digits_in (decimal n ++ b ∷ rest) ≡ length (decimal n)) × (value_after 0 (decimal n) ≡ n) × (length (decimal n) ≤ 15)
decimal_read n h rest b e =
    let size = decimal_length 14 n (omega arith) in
    let found = leading_append digit (decimal n) b rest (decimal_all n) e in (
      leading_take digit 15 (decimal n ++ b ∷ rest) (omega (arith, found, size)) ∙ found,
      value_decimal n,
      size,
    )

-- those that pass among the first k: they are k at most, and pass
leading_most : (p : ℕ → Bool) (k : ℕ) (xs : List ℕ) → length (take (leading p (take k xs)) xs) ≤ k
unfolding leading
leading_most p zero xs = omega arith
leading_most p (suc k) [] = omega arith
leading_most p (suc k) (x ∷ xs) = tested (p x) (λ e. rw e (omega (arith, leading_most p k xs))) (λ e. rw e (omega arith))

leading_all : (p : ℕ → Bool) (k : ℕ) (xs : List ℕ) → all p (take (leading p (take k xs)) xs) ≡ true
unfolding leading all
leading_all p zero xs = refl
leading_all p (suc k) [] = refl
leading_all p (suc k) (x ∷ xs) = tested (p x) (λ e. rw (e, e) (leading_all p k xs)) (λ e. rw e)

-- digits after a number of j digits
value_most : (j v : ℕ) (ds : List ℕ) → v + 1 ≤ 10 ^ j → all digit ds ≡ true → value_after v ds + 1 ≤ 10 ^ (j + length ds)
unfolding value_after all
value_most j v [] h g = rw (add-zero j) h
value_most j v (d ∷ ds) h g =
    let parts = both (digit d) (all digit ds) g in
    let range = digit_range d parts.0 in
    let e : j + suc (length ds) ≡ suc j + length ds = omega arith in
    rw e (value_most (suc j) (v * 10 + (d - 48)) ds (omega arith) parts.1)

pub read_size : (run : List ℕ) → value_after 0 (take (digits_in run) run) ≤ last_integer
read_size run =
    let most = rw zero-add at (value_most 0 0 (take (digits_in run) run) (omega arith) (leading_all digit 15 run)) in
    omega (arith, pow-le-pow_right {n = 10} (omega arith) (leading_most digit 15 run))

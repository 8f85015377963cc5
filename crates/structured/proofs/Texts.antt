-- Laws of the texts: how long they are, which bytes they hold, and that plain ones stand as they are.
-- Assumes nothing.
use mathlib.Core.Path.{◌≡◌, refl, ap, ◌∙◌}
use mathlib.Core.List.{List, [], ◌∷◌, ◌++◌}
use mathlib.Core.Bool.{Bool, true, false, not, ◌&&◌, ◌||◌}
use Prim.Native.Nat.{ℕ, suc, ◌+◌, ◌*◌, ◌≤◌, ◌<◌}
use native.Mathlib.Numerals.{add-one}
use native.Mathlib.Omega.{arith}
use borrow.Author.Tests.{not-true}
use lib.Dec.{eqb, lit≤}
use lib.ListN.{length, get_or, drop, length-append, drop_of_length-le}
use lib.Seq.{drop-cons}
use Rattle.cells.specs.Spans.{all}
use Rattle.names.specs.Extra.{extra_names}
use Rattle.structured.specs.Texts.{SP, quote, backslash, closing, escaped, string, further, strings, inner_list}
use Rattle.structured.specs.Lists.{every}
use Rattle.cells.proofs.Tests.{tested, both}
use Rattle.names.proofs.Joined.{rejoined, names_in_joined}

-- neither quote, backslash, blank nor closing parenthesis
abbrev pub plain_byte : ℕ → Bool
plain_byte b = not (eqb b quote || eqb b backslash) && (not (eqb b SP) && not (eqb b closing))

abbrev pub plain : List ℕ → Bool
plain t = all plain_byte t

pub escaped_append : (xs ys : List ℕ) → escaped (xs ++ ys) ≡ escaped xs ++ escaped ys
unfolding escaped
escaped_append [] ys = refl
escaped_append (b ∷ bs) ys =
    tested (eqb b quote || eqb b backslash) (λ e. rw (e, escaped_append bs ys)) (λ e. rw (e, escaped_append bs ys))

-- a byte alone
pub escaped_marked : (b : ℕ) → (eqb b quote || eqb b backslash) ≡ true → escaped (b ∷ []) ≡ backslash ∷ b ∷ []
unfolding escaped
escaped_marked b e = rw e

pub escaped_kept : (b : ℕ) → (eqb b quote || eqb b backslash) ≡ false → escaped (b ∷ []) ≡ b ∷ []
unfolding escaped
escaped_kept b e = rw e

-- the bytes from index i on
pub escaped_from : (text : List ℕ) (i : ℕ) → i < length text → escaped (drop i text) ≡ escaped (get_or text i 0 ∷ []) ++ escaped (drop (i + 1) text)
escaped_from text i h = rw (add-one, drop-cons text i 0 h) (escaped_append (get_or text i 0 ∷ []) (drop (suc i) text))

pub escaped_past : (text : List ℕ) (i : ℕ) → length text ≤ i → escaped (drop i text) ≡ []
unfolding escaped
escaped_past text i h = rw (drop_of_length-le text {i = i} h)

-- a plain byte has no \ before it
pub plain_kept : (b : ℕ) → plain_byte b ≡ true → (eqb b quote || eqb b backslash) ≡ false
plain_kept b h = not-true (eqb b quote || eqb b backslash) (both (not (eqb b quote || eqb b backslash)) (not (eqb b SP) && not (eqb b closing)) h).0

pub escaped_plain : (t : List ℕ) → plain t ≡ true → escaped t ≡ t
unfolding escaped all
escaped_plain [] h = refl
escaped_plain (b ∷ bs) h =
    let parts = both (plain_byte b) (plain bs) h in
    rw (plain_kept b parts.0, escaped_plain bs parts.1)

pub escaped_size : (t : List ℕ) → length (escaped t) ≤ 2 * length t
unfolding escaped
escaped_size [] = lit≤ tt
escaped_size (b ∷ bs) =
    let more = escaped_size bs in
    tested (eqb b quote || eqb b backslash) (λ e. rw e (omega arith)) (λ e. rw e (omega arith))

pub all_append : (p : ℕ → Bool) (xs ys : List ℕ) → all p xs ≡ true → all p ys ≡ true → all p (xs ++ ys) ≡ true
unfolding all
all_append p [] ys h g = g
all_append p (x ∷ xs) ys h g =
    let parts = both (p x) (all p xs) h in
    rw parts.0 (all_append p xs ys parts.1 g)

pub all_escaped : (p : ℕ → Bool) → p backslash ≡ true → (t : List ℕ) → all p t ≡ true → all p (escaped t) ≡ true
unfolding escaped all
all_escaped p k [] h = refl
all_escaped p k (b ∷ bs) h =
    let parts = both (p b) (all p bs) h in
    let more = all_escaped p k bs parts.1 in
    tested (eqb b quote || eqb b backslash) (λ e. rw e (simp (k, parts.0, more))) (λ e. rw e (simp (parts.0, more)))

module _ (p : ℕ → Bool) (q : p quote ≡ true) (k : p backslash ≡ true) where
  pub all_string : (t : List ℕ) → all p t ≡ true → all p (string t) ≡ true
  unfolding string all
  all_string t h = rw q (all_append p (escaped t) (quote ∷ []) (all_escaped p k t h) (rw q))

  all_further : p SP ≡ true → (ts : List (List ℕ)) → every (all p) ts ≡ true → all p (further ts) ≡ true
  unfolding further every all
  all_further s [] h = refl
  all_further s (t ∷ ts) h =
      let parts = both (all p t) (every (all p) ts) h in
      rw s (all_append p (string t) (further ts) (all_string t parts.0) (all_further s ts parts.1))

pub all_strings : (p : ℕ → Bool) → p quote ≡ true → p backslash ≡ true → p SP ≡ true → (ts : List (List ℕ)) → every (all p) ts ≡ true
    → all p (strings ts) ≡ true
unfolding strings every all
all_strings p q k s [] h = refl
all_strings p q k s (t ∷ ts) h =
    let parts = both (all p t) (every (all p) ts) h in
    all_append p (string t) (further ts) (all_string p q k t parts.0) (all_further p q k s ts parts.1)

pub string_length : (t : List ℕ) → length (string t) ≡ length (escaped t) + 2
unfolding string
string_length t = rw length-append (omega arith)

pub list_length : (ts : List (List ℕ)) → length (inner_list ts) ≡ length (strings ts) + 2
unfolding inner_list
list_length ts = rw length-append (omega arith)

string_size : (t : List ℕ) → plain t ≡ true → length (string t) ≡ length t + 2
string_size t h = string_length t ∙ ap (λ (l : List ℕ). length l + 2) (escaped_plain t h)

-- each name has two quotes, and there are no more names than commas and one
strings_size : (ts : List (List ℕ)) → every plain ts ≡ true → length (strings ts) ≤ 3 * length (rejoined ts) + 2
unfolding strings further every
strings_size [] h = lit≤ tt
strings_size (t ∷ []) h =
    let parts = both (plain t) true h in
    rw length-append (omega (arith, string_size t parts.0))
strings_size (t ∷ u ∷ ts) h =
    let parts = both (plain t) (every plain (u ∷ ts)) h in
    rw (length-append (string t), length-append t) (omega (arith, string_size t parts.0, strings_size (u ∷ ts) parts.1))

pub list_size : (run : List ℕ) → every plain (extra_names run) ≡ true → length (inner_list (extra_names run)) ≤ 3 * length run + 4
unfolding strings extra_names
list_size [] h = rw list_length (lit≤ tt)
list_size (b ∷ bs) h = rw list_length (omega (arith, strings_size (extra_names (b ∷ bs)) h, ap length (names_in_joined (b ∷ bs))))

-- A number and its decimal digits determine each other.
-- Assumes nothing.
use mathlib.Core.Path.{◌≡◌, refl, sym, ap, ◌∙◌}
use mathlib.Core.List.{List, [], ◌∷◌, ◌++◌, append_assoc}
use Prim.Native.Nat.{ℕ, zero, suc, ◌+◌, ◌-◌, ◌*◌, ◌/◌, ◌%◌, ◌^◌, ◌≤◌, ◌<◌}
use native.Mathlib.Nat.{not-suc-le-zero, le_of_suc-le-suc}
use native.Mathlib.Decide.{dec_lt}
use native.Mathlib.Omega.{arith}
use lib.ListN.{length, get_or, take, drop, set, length-append, get_or-append}
use lib.Seq.{drop-cons, lt-length-set, get_or-set_same, drop-set-lt}
use borrow.Author.Tests.{lt-ltb, le-ltb}
use Rattle.cells.specs.Runs.{Bytes}
use Rattle.cells.specs.InnerRun.{run_of}
use Rattle.cells.specs.declared.run.Run.{Run}
use Rattle.cells.specs.Decimal.{decimal_to, decimal, value_after}

-- any depth above the number serves
to_any : (depth other n : ℕ) → n < depth → n < other → decimal_to depth n ≡ decimal_to other n
unfolding decimal_to
to_any zero other n h g = absurd (not-suc-le-zero h)
to_any (suc depth) zero n h g = absurd (not-suc-le-zero g)
to_any (suc depth) (suc other) n h g = elim (dec_lt n 10) [
  | yes l ↦ simp (lt-ltb n 10 l)
  | no l ↦ rw (le-ltb n 10 (omega arith), to_any depth other (n / 10) (omega arith) (omega arith))
]

-- one digit
pub decimal_small : (n : ℕ) → n < 10 → decimal n ≡ (48 + n) ∷ []
unfolding decimal decimal_to
decimal_small n h = simp (lt-ltb n 10 h)

-- the last digit of a number of two or more
decimal_split : (n : ℕ) → 10 ≤ n → decimal n ≡ decimal (n / 10) ++ ((48 + n % 10) ∷ [])
unfolding decimal decimal_to
decimal_split n h = rw (le-ltb n 10 h, to_any n (suc (n / 10)) (n / 10) (omega arith) (omega arith))

-- a digit more
pub decimal_more : (n d : ℕ) → 1 ≤ n → d < 10 → decimal (n * 10 + d) ≡ decimal n ++ ((48 + d) ∷ [])
decimal_more n d h g =
    let high : (n * 10 + d) / 10 ≡ n = omega arith in
    let low : (n * 10 + d) % 10 ≡ d = omega arith in
    rw (decimal_split (n * 10 + d) (omega arith), high, low)

-- what holds of one digit, and of a number if of it without its last digit, holds of each number
by_digits : (P : ℕ → Type 0) → ((n : ℕ) → n < 10 → P n) → ((n : ℕ) → 10 ≤ n → P (n / 10) → P n) → (n : ℕ) → P n
by_digits P small more n = below (suc n) n (omega arith)
  where
    below : (depth m : ℕ) → m < depth → P m
    below zero m h = absurd (not-suc-le-zero h)
    below (suc depth) m h = elim (dec_lt m 10) [
      | yes l ↦ small m l
      | no l ↦ more m (omega arith) (below depth (m / 10) (omega arith))
    ]

pub value_append : (v : ℕ) (ds es : List ℕ) → value_after v (ds ++ es) ≡ value_after (value_after v ds) es
unfolding value_after
value_append v [] es = refl
value_append v (d ∷ ds) es = value_append (v * 10 + (d - 48)) ds es

-- the value of a number's digits
pub value_decimal : (n : ℕ) → value_after 0 (decimal n) ≡ n
unfolding value_after
value_decimal =
    by_digits (λ (n : ℕ). value_after 0 (decimal n) ≡ n) (λ n h. rw (decimal_small n h) (omega arith))
    (λ n h e. rw (decimal_split n h, value_append 0 (decimal (n / 10)) ((48 + n % 10) ∷ []), e) (omega arith))

pub decimal_injective : (m n : ℕ) → decimal m ≡ decimal n → m ≡ n
decimal_injective m n e = sym (value_decimal m) ∙ ap (value_after 0) e ∙ value_decimal n

-- a run of digits, one or more
pub data Digits : List ℕ → Type 0 where
  one : {d : ℕ} → 48 ≤ d → d ≤ 57 → Digits (d ∷ [])
  ◌then◌ : {d : ℕ} {ds : List ℕ} → (48 ≤ d) × (d ≤ 57) → Digits ds → Digits (d ∷ ds)

infixr 5 ◌then◌
digits_more : {ds : List ℕ} → Digits ds → (d : ℕ) → 48 ≤ d → d ≤ 57 → Digits (ds ++ (d ∷ []))
digits_more (one l u) d h g = (l, u) then one h g
digits_more (b then ds) d h g = b then digits_more ds d h g

pub decimal_digits : (n : ℕ) → Digits (decimal n)
decimal_digits =
    by_digits (λ (n : ℕ). Digits (decimal n)) (λ n h. rw (decimal_small n h) (one {d = 48 + n} (omega arith) (omega arith)))
    (λ n h ds. rw (decimal_split n h) (digits_more ds (48 + n % 10) (omega arith) (omega arith)))

pub digit_at : {ds : List ℕ} → Digits ds → (k : ℕ) → k < length ds → (48 ≤ get_or ds k 0) × (get_or ds k 0 ≤ 57)
digit_at (one l u) zero h = (l, u)
digit_at (one l u) (suc k) h = absurd (not-suc-le-zero (le_of_suc-le-suc h))
digit_at (b then ds) zero h = b
digit_at (b then ds) (suc k) h = digit_at ds k (le_of_suc-le-suc h)

pub decimal_some : (n : ℕ) → 1 ≤ length (decimal n)
decimal_some =
    by_digits (λ (n : ℕ). 1 ≤ length (decimal n)) (λ n h. rw (decimal_small n h) (omega arith))
    (λ n h more. rw (decimal_split n h, length-append) (omega arith))

digits_bytes : {ds : List ℕ} → Digits ds → Bytes ds
digits_bytes (one l u) zero = omega arith
digits_bytes (one l u) (suc i) = omega arith
digits_bytes (b then ds) zero = omega (arith, b.1)
digits_bytes (b then ds) (suc i) = digits_bytes ds i

pub bytes_decimal : (n : ℕ) → Bytes (decimal n)
bytes_decimal n = digits_bytes (decimal_digits n)

-- only zero begins with a zero
pub decimal_lead : (n : ℕ) → get_or (decimal n) 0 0 ≡ 48 → n ≡ 0
decimal_lead =
    by_digits (λ (n : ℕ). get_or (decimal n) 0 0 ≡ 48 → n ≡ 0) (λ n h e. omega (arith, rw (decimal_small n h) at e))
    (λ n h ih e. absurd (omega (arith, ih (rw (decimal_split n h, get_or-append (decimal (n / 10)) ((48 + n % 10) ∷ []) 0 0 (decimal_some (n / 10))) at e))))

-- as many digits as the powers of ten say
pub decimal_length : (k n : ℕ) → n < 10 ^ suc k → length (decimal n) ≤ suc k
decimal_length zero n h = rw (decimal_small n (omega arith)) (omega arith)
decimal_length (suc k) n h = elim (dec_lt n 10) [
  | yes l ↦ rw (decimal_small n l) (omega arith)
  | no l ↦ rw (decimal_split n (omega arith), length-append) (omega (arith, decimal_length k (n / 10) (omega arith)))
]

-- digits that are laid from the end of an array to its front
stored_digit : (all : List ℕ) (start v : ℕ) → start < length all → drop start (set all start v) ≡ v ∷ drop (suc start) all
stored_digit all start v h =
    rw (drop-cons (set all start v) start 0 (lt-length-set all start v h), get_or-set_same all start v 0 h, drop-set-lt (suc start) all start v (omega arith))

pub digit_laid : (n left start : ℕ) (all : List ℕ) → decimal n ≡ decimal left ++ drop (suc start) all → 10 ≤ left → start < length all
    → decimal n ≡ decimal (left / 10) ++ drop start (set all start (48 + left % 10))
digit_laid n left start all e h g = e ∙ rw (decimal_split left h, append_assoc, stored_digit all start (48 + left % 10) g)

pub last_laid : (n left start : ℕ) (all : List ℕ) → decimal n ≡ decimal left ++ drop (suc start) all → left < 10 → start < length all
    → drop start (set all start (48 + left)) ≡ decimal n
last_laid n left start all e h g = stored_digit all start (48 + left) g ∙ sym (e ∙ rw (decimal_small left h))

-- each digit leaves fewer
pub fewer : (start left : ℕ) → left < 10 ^ suc start → 10 ≤ left → (1 ≤ start) × (left / 10 < 10 ^ start)
fewer zero left h g = absurd (omega arith)
fewer (suc start) left h g = omega arith

-- the bytes that are handed out of a number's digits
pub shown_piece : (n : ℕ) (r : Run 20) {piece : List ℕ} → run_of r ≡ decimal n → piece ≡ take r.len r.bytes → piece ≡ decimal n
shown_piece n r shown handed = handed ∙ shown

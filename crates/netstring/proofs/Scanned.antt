-- What a reader of a length knows on its way: digits that it has passed, and the byte that it stands at.
-- Assumes nothing.
use mathlib.Core.List.{List, [], ◌∷◌, ◌++◌}
use mathlib.Core.Bool.{Bool, true, false, true≢false}
use mathlib.Core.Path.{◌≡◌, refl, sym, ap, ap₂, ◌∙◌}
use mathlib.Core.Logic.{◌⊎◌, inl, inr, ⊎_elim}
use Prim.Native.Nat.{ℕ, ◌+◌, ◌-◌, ◌*◌, ◌≤◌, ◌<◌}
use native.Mathlib.Nat.{eq-or-lt_of_le}
use native.Mathlib.Numerals.{add-one}
use native.Mathlib.Decide.{dec_lt}
use native.Mathlib.Omega.{arith}
use lib.ListN.{length, get_or, take, drop, length-append, get_or-append, take-append-drop}
use lib.Seq.{take-append-le, get_or-take, get_or-append_seam, take-suc, length-take-le, drop-cons}
use Rattle.cells.specs.Decimal.{decimal, value_after}
use Rattle.netstring.specs.Netstring.{colon}
use Rattle.netstring.specs.InnerReading.{LengthAt, NoLength}
use Rattle.cells.proofs.Digits.{decimal_small, decimal_more, value_append, value_decimal, decimal_digits, digit_at, decimal_some, decimal_lead}

-- the first i bytes are the digits of value, which is not 0
pub record Passed (run : List ℕ) (i value : ℕ) : Type 0 where
  pub some : 1 ≤ value
  pub within : i ≤ length run
  pub digits : take i run ≡ decimal value

-- more digits make no smaller number
value_grows : (v : ℕ) (ds : List ℕ) → v ≤ value_after v ds
unfolding value_after
value_grows v [] = omega arith
value_grows v (d ∷ ds) = omega (arith, value_grows (v * 10 + (d - 48)) ds)

module _ (run : List ℕ) (n : ℕ) (rest : List ℕ) (text : LengthAt run n rest) where
  -- the byte that many places on, before the colon, at it
  byte_before : (k : ℕ) → k < length (decimal n) → get_or run k 0 ≡ get_or (decimal n) k 0
  byte_before k h = ap (λ (l : List ℕ). get_or l k 0) text ∙ get_or-append (decimal n) (colon ∷ rest) 0 k h

  byte_at : get_or run (length (decimal n)) 0 ≡ colon
  byte_at = ap (λ (l : List ℕ). get_or l (length (decimal n)) 0) text ∙ get_or-append_seam (decimal n) colon rest 0

  long : length (decimal n) + 1 ≤ length run
  long = omega (arith, simp length-append at (ap length text))

  module _ (i value : ℕ) (so : Passed run i value) where
    size : length (decimal value) ≡ i
    size = ap length (sym so.digits) ∙ length-take-le i run so.within

    passed : (k : ℕ) → k < i → get_or run k 0 ≡ get_or (decimal value) k 0
    passed k h = sym (get_or-take i run k 0 h) ∙ ap (λ (l : List ℕ). get_or l k 0) so.digits

    -- the digits passed are no more than there are
    no_further : i ≤ length (decimal n)
    no_further = elim (dec_lt (length (decimal n)) i) [
      | yes l ↦
          absurd (omega (arith, byte_at, passed (length (decimal n)) l, (digit_at (decimal_digits value) (length (decimal n)) (omega (arith, size))).1))
      | no l ↦ omega arith
    ]

    -- and make no larger number
    at_most : value ≤ n
    at_most =
        let front : take i (decimal n) ≡ decimal value =
        sym (take-append-le i (decimal n) (colon ∷ rest) no_further) ∙ ap (take i) (sym text) ∙ so.digits
        in
        let whole : n ≡ value_after (value_after 0 (decimal value)) (drop i (decimal n)) =
        sym (value_decimal n)
        ∙ ap (value_after 0) (sym (take-append-drop i (decimal n)) ∙ ap (λ (l : List ℕ). l ++ drop i (decimal n)) front)
        ∙ value_append 0 (decimal value) (drop i (decimal n))
        in
        omega (arith, whole, value_decimal value, value_grows (value_after 0 (decimal value)) (drop i (decimal n)))

module _ (run : List ℕ) (i value : ℕ) (so : Passed run i value) where
  -- the colon after the digits
  pub found : i < length run → get_or run i 0 ≡ colon → LengthAt run value (drop (i + 1) run)
  found h e =
      sym (take-append-drop i run) ∙ ap₂ ◌++◌ so.digits (drop-cons run i 0 h ∙ ap₂ (λ (b k : ℕ). b ∷ drop k run) e (sym (add-one i)))

  -- either all the digits of n were passed, and a colon stands here, or one of them does
  here : (n : ℕ) (rest : List ℕ) → LengthAt run n rest → (get_or run i 0 ≡ colon) ⊎ ((48 ≤ get_or run i 0) × (get_or run i 0 ≤ 57))
  here n rest text =
      ⊎_elim (λ e. inl (ap (λ (k : ℕ). get_or run k 0) e ∙ byte_at run n rest text))
      (λ l. let same = byte_before run n rest text i l in
      let digit = digit_at (decimal_digits n) i l in
      inr (omega (arith, same, digit.0), omega (arith, same, digit.1)))
      (eq-or-lt_of_le (no_further run n rest text i value so))

  pub no_digit : (get_or run i 0 ≡ colon → ⊥) → (48 ≤ get_or run i 0 → get_or run i 0 ≤ 57 → ⊥) → NoLength run
  no_digit differs out n rest le text = ⊎_elim differs (λ w. out w.0 w.1) (here n rest text)

  -- a number past the run's length
  pub too_large : length run < value → NoLength run
  too_large big n rest le text = omega (arith, at_most run n rest text i value so)

  pub run_ended : length run ≤ i → NoLength run
  run_ended end n rest le text = omega (arith, so.within, long run n rest text, no_further run n rest text i value so)

  one_more : i < length run → 48 ≤ get_or run i 0 → get_or run i 0 ≤ 57 → Passed run (i + 1) (value * 10 + (get_or run i 0 - 48))
  one_more h low high =
      let b = get_or run i 0 in
      let digit : 48 + (b - 48) ≡ b = omega arith in
      record {
        some = omega (arith, so.some);
        within = omega arith;
        digits = ap (λ (k : ℕ). take k run) (add-one i)
            ∙ take-suc run i 0 h
            ∙ ap₂ (λ (l : List ℕ) (d : ℕ). l ++ (d ∷ [])) so.digits (sym digit)
            ∙ sym (decimal_more value (b - 48) so.some (omega arith));
      }

-- the first digit, which is not 0
first_digit : (run : List ℕ) → 0 < length run → 49 ≤ get_or run 0 0 → get_or run 0 0 ≤ 57 → Passed run 1 (get_or run 0 0 - 48)
first_digit run h low high =
    let b = get_or run 0 0 in
    let digit : 48 + (b - 48) ≡ b = omega arith in
    record {
      some = omega arith;
      within = omega arith;
      digits = take-suc run 0 0 h ∙ ap (λ (d : ℕ). d ∷ []) (sym digit) ∙ sym (decimal_small (b - 48) (omega arith));
    }

no_first : (run : List ℕ) → (48 ≤ get_or run 0 0 → get_or run 0 0 ≤ 57 → ⊥) → NoLength run
no_first run out n rest le text =
    let same = byte_before run n rest text 0 (decimal_some n) in
    let digit = digit_at (decimal_digits n) 0 (decimal_some n) in
    out (omega (arith, same, digit.0)) (omega (arith, same, digit.1))

nothing_left : (run : List ℕ) → length run ≤ 0 → NoLength run
nothing_left run h n rest le text = omega (arith, long run n rest text)

-- a number whose first digit is 0 is 0, and a colon follows
pub only_zero : (run tail : List ℕ) → run ≡ 48 ∷ tail → ((rest : List ℕ) → run ≡ 48 ∷ colon ∷ rest → ⊥) → NoLength run
only_zero run tail first none n rest le text =
    let same : get_or (decimal n) 0 0 ≡ 48 = sym (byte_before run n rest text 0 (decimal_some n)) ∙ ap (λ (l : List ℕ). get_or l 0 0) first in
    none rest (text ∙ ap (λ (m : ℕ). decimal m ++ (colon ∷ rest)) (decimal_lead n same) ∙ ap (λ (l : List ℕ). l ++ (colon ∷ rest)) (decimal_small 0 (omega arith)))

pub zero_found : {run rest : List ℕ} → run ≡ 48 ∷ colon ∷ rest → LengthAt run 0 rest
zero_found {run} {rest} e = e ∙ ap (λ (l : List ℕ). l ++ (colon ∷ rest)) (sym (decimal_small 0 (omega arith)))

-- a run that doesn't begin with a 0
pub no_zero : (run : List ℕ) (starts : Bool) → ((rest : List ℕ) → run ≡ 48 ∷ rest → starts ≡ true) → starts ≡ false → 0 < length run → get_or run 0 0 ≡ 48 → ⊥
no_zero run starts told e h zero = true≢false (sym (told (drop 1 run) (drop-cons run 0 0 h ∙ ap (λ (b : ℕ). b ∷ drop 1 run) zero)) ∙ e)

-- what the loop knows at the byte i of a run that doesn't begin with a 0
pub record Read (run : List ℕ) (i value : ℕ) : Type 0 where
  pub none : i ≡ 0 → value ≡ 0
  pub passed : 0 < i → Passed run i value

pub begun : (run : List ℕ) → Read run 0 0
begun run = record { none = λ z. refl; passed = λ o. absurd (omega arith) }

module _ (run : List ℕ) (i value : ℕ) (so : Read run i value) where
  by_cases : {P : Type 0} → (i ≡ 0 → P) → (Passed run i value → P) → P
  by_cases none some = elim (dec_lt 0 i) [ yes l ↦ some (so.passed l) | no l ↦ none (omega arith) ]

  pub read_no_digit : (0 < i → get_or run i 0 ≡ colon → ⊥) → (48 ≤ get_or run i 0 → get_or run i 0 ≤ 57 → ⊥) → NoLength run
  read_no_digit differs out =
      by_cases (λ z. no_first run (λ l h. out (rw z l) (rw z h)))
      (λ p. no_digit run i value p (λ e. differs (elim (dec_lt 0 i) [ yes l ↦ l | no l ↦ absurd (omega (arith, p.some, so.none (omega arith))) ]) e) out)

  pub read_ended : length run ≤ i → NoLength run
  read_ended end = by_cases (λ z. nothing_left run (omega arith)) (λ p. run_ended run i value p end)

  module _ (h : i < length run) (low : 48 ≤ get_or run i 0) (high : get_or run i 0 ≤ 57) (zero : get_or run 0 0 ≡ 48 → ⊥) where
    more : Passed run (i + 1) (value * 10 + (get_or run i 0 - 48))
    more =
        by_cases (λ z.
        let here : get_or run i 0 ≡ get_or run 0 0 = ap (λ (k : ℕ). get_or run k 0) z in
        let none = so.none z in
        let one : i + 1 ≡ 1 = omega arith in
        let only : value * 10 + (get_or run i 0 - 48) ≡ get_or run 0 0 - 48 = omega arith in
        rw (one, only) (first_digit run (omega arith) (omega arith) (omega arith)))
        (λ p. one_more run i value p h low high)

    pub read_more : Read run (i + 1) (value * 10 + (get_or run i 0 - 48))
    read_more = record { none = λ z. absurd (omega arith); passed = λ o. more }

    pub read_too_large : length run < value * 10 + (get_or run i 0 - 48) → NoLength run
    read_too_large big = too_large run (i + 1) _ more big

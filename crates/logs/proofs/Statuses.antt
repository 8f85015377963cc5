-- Laws of the status of a line.
-- Assumes nothing.
use Rattle.std.proofs.Common.{Option, Some, None}
use mathlib.Core.Path.{◌≡◌, refl, sym, ap, ◌∙◌}
use mathlib.Core.List.{List, [], ◌∷◌}
use mathlib.Core.Bool.{Bool, true, false, false≢true, ◌&&◌, and-false, and-true}
use Prim.Native.Nat.{ℕ, zero, suc, ◌+◌, ◌-◌, ◌*◌, ◌/◌, ◌%◌, ◌≤◌, ◌<◌}
use native.Mathlib.Nat.{add-zero}
use native.Mathlib.Decide.{ℕ_discrete}
use native.Mathlib.Omega.{arith}
use borrow.Author.Tests.{leb-true, le-leb, lt-leb, eq-eqb, ne_eqb}
use lib.Dec.{eqb, leb}
use lib.ListN.{length, get_or, take, drop, length-drop}
use lib.Seq.{drop-drop}
use Rattle.cells.specs.Decimal.{decimal}
use Rattle.cells.specs.Runs.{cut, same}
use Rattle.cells.proofs.Cuts.{cut_rest}
use Rattle.cells.proofs.Digits.{decimal_small, decimal_more, decimal_injective}
use Rattle.cells.proofs.Equality.{same_self, same_not}
use Rattle.cells.proofs.Runs.{part_listed}
use Rattle.cells.proofs.Tests.{both}
use Rattle.logs.specs.Line.{Kind, ◌then◌, space, one_or_more, digit, status, size, common_log, line}
use Rattle.logs.specs.Counts.{first_of, under}
use Rattle.logs.specs.InnerParts.{word_part, date_part, request_part, status_part, Only, OnlyIs, GoesUnder}
use Rattle.logs.proofs.Texts.{given_then, byte_then, byte_none}
use Rattle.logs.proofs.Parts.{byte_at}

-- the digits of a status
pub three_digits : (s : ℕ) → 100 ≤ s → s < 600 → decimal s ≡ (48 + s / 100) ∷ (48 + s / 10 % 10) ∷ (48 + s % 10) ∷ []
three_digits s l u =
    let high : s / 10 ≡ s / 100 * 10 + s / 10 % 10 = omega arith in
    let all : s ≡ s / 10 * 10 + s % 10 = omega arith in
    let two : decimal (s / 10) ≡ (48 + s / 100) ∷ (48 + s / 10 % 10) ∷ [] =
    ap decimal high ∙ decimal_more (s / 100) (s / 10 % 10) (omega arith) (omega arith) ∙ rw (decimal_small (s / 100) (omega arith)) refl
    in
    ap decimal all ∙ decimal_more (s / 10) (s % 10) (omega arith) (omega arith) ∙ rw two refl

-- three bytes that are the digits of a status
unfoldable pub status_digits : ℕ → ℕ → ℕ → Bool
status_digits a b c = leb 49 a && leb a 53 && digit b && digit c

module _ (a b c : ℕ) where
  read_digits : (s : ℕ) → 100 ≤ s → s < 600 → decimal s ≡ a ∷ b ∷ c ∷ [] → (a ≡ 48 + s / 100) × (b ≡ 48 + s / 10 % 10) × (c ≡ 48 + s % 10)
  read_digits s l u e =
      let is : a ∷ b ∷ c ∷ [] ≡ (48 + s / 100) ∷ (48 + s / 10 % 10) ∷ (48 + s % 10) ∷ [] = sym e ∙ three_digits s l u in
      (ap (λ (xs : List ℕ). get_or xs 0 0) is, ap (λ (xs : List ℕ). get_or xs 1 0) is, ap (λ (xs : List ℕ). get_or xs 2 0) is)

  -- each digit is in its range
  digits_tested : (s : ℕ) → 100 ≤ s → s < 600 → decimal s ≡ a ∷ b ∷ c ∷ [] → status_digits a b c ≡ true
  unfolding status_digits digit
  digits_tested s l u e =
      let is = read_digits s l u e in
      rw (le-leb 49 a (omega arith), le-leb a 53 (omega arith), le-leb 48 b (omega arith), le-leb b 57 (omega arith), le-leb 48 c (omega arith), le-leb c 57 (omega arith))
      refl

  pub no_digits : status_digits a b c ≡ false → OnlyIs (λ s. status s (a ∷ b ∷ c ∷ [])) None
  no_digits f = λ s l u. same_not (decimal s) (a ∷ b ∷ c ∷ []) (λ e. false≢true (sym f ∙ digits_tested s l u e))

  -- the number that they show
  abbrev pub shown : ℕ
  shown = 100 * a + 10 * b + c - 5328

  pub in_range : status_digits a b c ≡ true → (49 ≤ a) × (a ≤ 53) × (48 ≤ b) × (b ≤ 57) × (48 ≤ c) × (c ≤ 57)
  unfolding status_digits digit
  in_range t =
      let three = both (leb 49 a && leb a 53 && digit b) (digit c) t in
      let two = both (leb 49 a && leb a 53) (digit b) three.0 in
      let one = both (leb 49 a) (leb a 53) two.0 in
      let tens = both (leb 48 b) (leb b 57) two.1 in
      let ones = both (leb 48 c) (leb c 57) three.1 in (
        leb-true 49 a one.0,
        leb-true a 53 one.1,
        leb-true 48 b tens.0,
        leb-true b 57 tens.1,
        leb-true 48 c ones.0,
        leb-true c 57 ones.1,
      )

  pub digits_told : status_digits a b c ≡ true → Only (λ s. status s (a ∷ b ∷ c ∷ [])) shown
  digits_told t =
      let range = in_range t in
      let hundreds : 48 + shown / 100 ≡ a = omega (arith, range) in
      let tens : 48 + shown / 10 % 10 ≡ b = omega (arith, range) in
      let ones : 48 + shown % 10 ≡ c = omega (arith, range) in
      let is : decimal shown ≡ a ∷ b ∷ c ∷ [] = three_digits shown (omega (arith, range)) (omega (arith, range)) ∙ rw (hundreds, tens, ones) refl in
      record {
        from = omega (arith, range);
        below = omega (arith, range);
        is = λ s l u. elim (ℕ_discrete s shown) [
          | yes e ↦ ap (λ (n : ℕ). same (decimal n) (a ∷ b ∷ c ∷ [])) e ∙ rw is (same_self (a ∷ b ∷ c ∷ [])) ∙ sym (eq-eqb s shown e)
          | no n ↦ same_not (decimal s) (a ∷ b ∷ c ∷ []) (λ e. n (decimal_injective s shown (e ∙ sym is))) ∙ sym (ne_eqb s shown n)
        ];
      }

-- the first of the numbers that pass is the only one, and there is none where none passes
module _ (p : ℕ → Bool) where
  first_found : (r s n : ℕ) → ((t : ℕ) → s ≤ t → t < s + n → p t ≡ eqb t r) → s ≤ r → r < s + n → first_of p s n ≡ r
  unfolding first_of
  first_found r s zero is l u = absurd (omega (arith, l, u))
  first_found r s (suc n) is l u = elim (ℕ_discrete s r) [
    | yes e ↦ rw (is s (omega arith) (omega arith), eq-eqb s r e) e
    | no d ↦ rw (is s (omega arith) (omega arith), ne_eqb s r d) (first_found r (suc s) n (λ t h k. is t (omega arith) (omega arith)) (omega (arith, d)) (omega arith))
  ]

  first_missing : (s n : ℕ) → ((t : ℕ) → s ≤ t → t < s + n → p t ≡ false) → first_of p s n ≡ 0
  unfolding first_of
  first_missing s zero is = refl
  first_missing s (suc n) is = rw (is s (omega arith) (omega arith)) (first_missing (suc s) n (λ t l u. is t (omega arith) (omega arith)))

  pub only_first : (r : ℕ) → Only p r → first_of p 100 500 ≡ r
  only_first r o = first_found r 100 500 (λ t h k. o.is t h (omega arith)) o.from (omega (arith, o.below))

  pub none_first : OnlyIs p None → first_of p 100 500 ≡ 0
  none_first o = first_missing 100 500 (λ t h k. o t h (omega arith))

-- the status at the front of the rest of a line
pub status_front : (s : ℕ) (xs : List ℕ) → 100 ≤ s → s < 600 → status_part s xs ≡ (status s (take 3 xs) && (space then size) (drop 3 xs))
status_front s xs l u =
    let three : length (decimal s) ≡ 3 = ap length (three_digits s l u) in
    given_then (decimal s) (space then size) xs ∙ ap (λ (n : ℕ). same (decimal s) (take n xs) && (space then size) (drop n xs)) three

-- two tests that agree
pub only_as : (p q : ℕ → Bool) → ((s : ℕ) → 100 ≤ s → s < 600 → q s ≡ p s) → (r : Option ℕ) → OnlyIs p r → OnlyIs q r
only_as p q e None o = λ s l u. e s l u ∙ o s l u
only_as p q e (Some r) o = record { from = o.from; below = o.below; is = λ s l u. e s l u ∙ o.is s l u }

-- a rest that is none, whatever the status
no_ending : (xs : List ℕ) → (space then size) (drop 3 xs) ≡ false → OnlyIs (λ s. status_part s xs) None
no_ending xs f = λ s l u. status_front s xs l u ∙ rw f (and-false (status s (take 3 xs)))

-- one byte is no space and size
too_short : (xs : List ℕ) → length xs < 2 → (space then size) xs ≡ false
unfolding size one_or_more same
too_short [] h = byte_none 32 size
too_short (x ∷ []) h = byte_then 32 size x [] ∙ and-false (eqb x 32)
too_short (x ∷ y ∷ xs) h = absurd (omega (arith, h))

module _ (xs : List ℕ) (at : ℕ) where
  pub ending_short : length xs - at < 5 → OnlyIs (λ s. status_part s (drop at xs)) None
  ending_short h = no_ending (drop at xs) (too_short (drop 3 (drop at xs)) (omega (arith, length-drop 3 (drop at xs), length-drop at xs)))

  module _ (h : at + 4 < length xs) (good : Bool) (is : good ≡ size (cut xs (at + 4) (length xs))) where
    after_three : (space then size) (drop 3 (drop at xs)) ≡ (eqb (get_or xs (at + 3) 0) 32 && good)
    after_three =
        let next : at + 3 + 1 ≡ at + 4 = omega arith in
        ap (space then size) (drop-drop 3 at xs) ∙ byte_at xs 32 size (at + 3) (omega arith)
        ∙ ap (λ (ys : List ℕ). eqb (get_or xs (at + 3) 0) 32 && size ys) (ap (λ (n : ℕ). drop n xs) next ∙ sym (cut_rest xs (at + 4)))
        ∙ ap (λ (t : Bool). eqb (get_or xs (at + 3) 0) 32 && t) (sym is)

    pub ending_none : (eqb (get_or xs (at + 3) 0) 32 && good) ≡ false → OnlyIs (λ s. status_part s (drop at xs)) None
    ending_none f = no_ending (drop at xs) (after_three ∙ f)

    pub ending_told : (r : Option ℕ) → (eqb (get_or xs (at + 3) 0) 32 && good) ≡ true
        → OnlyIs (λ s. status s (get_or xs at 0 ∷ get_or xs (at + 1) 0 ∷ get_or xs (at + 2) 0 ∷ [])) r → OnlyIs (λ s. status_part s (drop at xs)) r
    ending_told r t = only_as (λ s. status s three) (λ s. status_part s (drop at xs)) (λ s l u.
        let front : take 3 (drop at xs) ≡ three = rw add-zero at (part_listed xs at 0 3 (omega arith)) in
        status_front s (drop at xs) l u ∙ rw (after_three ∙ t, front) (and-true (status s three)))
        r
      where
        three : List ℕ
        three = get_or xs at 0 ∷ get_or xs (at + 1) 0 ∷ get_or xs (at + 2) 0 ∷ []

-- a line goes under the status that its parts lead to
module _ (l : List ℕ) where
  pub under_long : 8192 < length l → GoesUnder l None
  unfolding under line
  under_long h = none_first (λ s. line s l) (λ s a b. rw (lt-leb (length l) 8192 h) refl)

  -- a line that is not too long is of a status where its text is, so where its last part is
  pub under_by : (r : Option ℕ) → length l ≤ 8192 → OnlyIs (λ s. common_log s l) r → GoesUnder l r
  unfolding under line
  under_by None h o = none_first (λ s. line s l) (λ s a b. rw (le-leb (length l) 8192 h) (o s a b))
  under_by (Some r) h o = (
    only_first (λ s. line s l) r record { from = o.from; below = o.below; is = λ s a b. rw (le-leb (length l) 8192 h) (o.is s a b) },
    o.from,
    o.below,
  )

  -- the parts, of which the ones before have been passed
  abbrev pub request_on : ℕ → Kind
  request_on s = request_part (status_part s)

  abbrev pub date_on : ℕ → Kind
  date_on s = date_part (request_on s)

  abbrev pub user_on : ℕ → Kind
  user_on s = word_part (date_on s)

  abbrev pub ident_on : ℕ → Kind
  ident_on s = word_part (user_on s)

  pub log_parts : (s : ℕ) → common_log s l ≡ word_part (ident_on s) l
  unfolding common_log
  log_parts s = refl

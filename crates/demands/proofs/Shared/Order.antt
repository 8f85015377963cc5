-- The number of a call is 0 or that of one of its checks, by their order.
-- Assumes nothing.
use mathlib.Core.Path.{◌≡◌, refl, sym, ap, ◌∙◌}
use mathlib.Core.Bool.{Bool, true, false, true≢false, cond}
use mathlib.Core.List.{List, [], ◌∷◌, map, Memᴰ}
use Prim.Native.Nat.{ℕ, zero, suc, ◌<◌}
use native.Mathlib.Omega.{arith}
use lib.ListN.{get_or}
use Rattle.stages.specs.Checks.{Check, first}
use Rattle.stages.proofs.Checks.{numbered, Numbered, numbered_parts}
use Rattle.demands.specs.Order.{unchecked, Given, NoneHolds, Exactly}

-- the number of a call is 0 or that of one of its checks
pub first_among : (cs : List Check) → Memᴰ (first cs) (0 ∷ map (λ (c : Check). c.number) cs)
first_among [] = Memᴰ.head refl
first_among (c ∷ cs) = by c.holds (first_among cs)
  where
    by : (t : Bool) → Memᴰ (first cs) (0 ∷ map (λ (d : Check). d.number) cs)
        → Memᴰ (cond t c.number (first cs)) (0 ∷ map (λ (d : Check). d.number) (c ∷ cs))
    by true m = Memᴰ.tail (Memᴰ.head refl)
    by false (Memᴰ.head z) = Memᴰ.head z
    by false (Memᴰ.tail m) = Memᴰ.tail (Memᴰ.tail m)

given_later : (k : ℕ) (c : Check) (cs : List Check) → c.holds ≡ false → Given k cs → Given k (c ∷ cs)
given_later k c cs e g = record {
  place = suc g.place;
  within = omega (arith, g.within);
  number = g.number;
  holds = g.holds;
  before = earlier;
}
  where
    earlier : (j : ℕ) → j < suc g.place → (get_or (c ∷ cs) j unchecked).holds ≡ false
    earlier zero l = e
    earlier (suc j) l = g.before j (omega arith)

pub first_exactly : (cs : List Check) → numbered cs ≡ true → Exactly cs (first cs)
first_exactly [] e = record {
  given = λ k l z. absurd (omega arith);
  only = λ k g. absurd (omega (arith, g.within));
  passed = λ z j l. absurd (omega arith);
  none = λ n. refl;
}
first_exactly (c ∷ cs) e = by c.holds refl (first_exactly cs parts.rest)
  where
    parts : Numbered c cs
    parts = numbered_parts c cs e

    by : (t : Bool) → c.holds ≡ t → Exactly cs (first cs) → Exactly (c ∷ cs) (cond t c.number (first cs))
    by true p x = record {
      given = λ k l z. record { place = 0; within = omega arith; number = z; holds = p; before = λ j l. absurd (omega arith) };
      only = λ k g. here k g g.place refl;
      passed = λ z. absurd (omega (arith, parts.low));
      none = λ n. absurd (true≢false (sym p ∙ n 0 (omega arith)));
    }
      where
        here : (k : ℕ) (g : Given k (c ∷ cs)) (i : ℕ) → g.place ≡ i → c.number ≡ k
        here k g zero q = sym (ap (λ (j : ℕ). (get_or (c ∷ cs) j unchecked).number) q) ∙ g.number
        here k g (suc i) q = absurd (true≢false (sym p ∙ g.before 0 (omega arith)))
    by false p x = record {
      given = λ k l z. given_later k c cs p (x.given k l z);
      only = λ k g. later k g g.place refl;
      passed = λ z. skipped (x.passed z);
      none = λ n. x.none (λ j l. n (suc j) (omega arith));
    }
      where
        later : (k : ℕ) (g : Given k (c ∷ cs)) (i : ℕ) → g.place ≡ i → first cs ≡ k
        later k g zero q = absurd (true≢false (sym g.holds ∙ ap (λ (j : ℕ). (get_or (c ∷ cs) j unchecked).holds) q ∙ p))
        later k g (suc i) q = x.only k (record {
          place = i;
          within = omega (arith, g.within);
          number = sym (ap (λ (j : ℕ). (get_or (c ∷ cs) j unchecked).number) q) ∙ g.number;
          holds = sym (ap (λ (j : ℕ). (get_or (c ∷ cs) j unchecked).holds) q) ∙ g.holds;
          before = λ j l. g.before (suc j) (omega arith);
        })

        skipped : NoneHolds cs → NoneHolds (c ∷ cs)
        skipped n zero l = p
        skipped n (suc j) l = n j (omega arith)

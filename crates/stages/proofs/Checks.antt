-- The first of several checks that holds: document 01, 'The numbers a call returns'.
-- Assumes nothing.
use mathlib.Core.Path.{◌≡◌, refl, sym, ◌∙◌}
use mathlib.Core.Bool.{Bool, true, false, cond, not, ◌&&◌}
use mathlib.Core.List.{List, [], ◌∷◌, ◌++◌}
use Prim.Native.Nat.{ℕ, ◌≤◌, ◌<◌}
use native.Mathlib.Omega.{arith}
use borrow.Author.Tests.{leb-true, ltb-true, eqb-true, eqb-false, ne_eqb, not-true}
use lib.Dec.{eqb, leb, ltb}
use Rattle.cells.proofs.Tests.{both}
use Rattle.stages.specs.Checks.{Check, first}

-- the checks' numbers are not 0
abbrev pub numbered : List Check → Bool
numbered [] = true
numbered (c ∷ cs) = leb 1 c.number && numbered cs

pub record Numbered (c : Check) (cs : List Check) : Type 0 where
  pub low : 1 ≤ c.number
  pub rest : numbered cs ≡ true

pub numbered_parts : (c : Check) (cs : List Check) → numbered (c ∷ cs) ≡ true → Numbered c cs
numbered_parts c cs e =
    let p = both (leb 1 c.number) (numbered cs) e in
    record { low = leb-true 1 c.number p.0; rest = p.1 }

-- checks after others are looked at where none of those holds
pub first_append : (xs ys : List Check) → numbered xs ≡ true → first (xs ++ ys) ≡ cond (eqb (first xs) 0) (first ys) (first xs)
first_append [] ys e = refl
first_append (c ∷ cs) ys e =
    let parts = numbered_parts c cs e in
    by c.holds parts.low (first_append cs ys parts.rest)
  where
    by : (t : Bool) → 1 ≤ c.number → first (cs ++ ys) ≡ cond (eqb (first cs) 0) (first ys) (first cs)
        → cond t c.number (first (cs ++ ys)) ≡ cond (eqb (cond t c.number (first cs)) 0) (first ys) (cond t c.number (first cs))
    by true h k = rw (ne_eqb c.number 0 (λ z. omega arith))
    by false h k = k

-- no check has this number
abbrev pub lacks : ℕ → List Check → Bool
lacks n [] = true
lacks n (c ∷ cs) = not (eqb c.number n) && lacks n cs

pub first_lacks : (n : ℕ) (cs : List Check) → (n ≡ 0 → ⊥) → lacks n cs ≡ true → first cs ≡ n → ⊥
first_lacks n [] nz e f = nz (sym f)
first_lacks n (c ∷ cs) nz e f =
    let parts = both (not (eqb c.number n)) (lacks n cs) e in
    by c.holds f (not-true (eqb c.number n) parts.0) (first_lacks n cs nz parts.1)
  where
    by : (t : Bool) → cond t c.number (first cs) ≡ n → eqb c.number n ≡ false → (first cs ≡ n → ⊥) → ⊥
    by true g other later = eqb-false c.number n other g
    by false g other later = later g

-- a number that none of the checks at the front has is given by those after them
pub record Later (xs ys : List Check) (n : ℕ) : Type 0 where
  pub none : first xs ≡ 0
  pub later : first ys ≡ n

pub comes_later : (xs ys : List Check) (n : ℕ) → numbered xs ≡ true → lacks n xs ≡ true → first (xs ++ ys) ≡ n → Later xs ys n
comes_later xs ys n e l f = by (eqb (first xs) 0) refl (sym (first_append xs ys e) ∙ f)
  where
    by : (t : Bool) → eqb (first xs) 0 ≡ t → cond t (first ys) (first xs) ≡ n → Later xs ys n
    by true z g = record { none = eqb-true (first xs) 0 z; later = g }
    by false z g = absurd (first_lacks n xs (λ o. eqb-false (first xs) 0 z (g ∙ o)) l g)

-- where none of all holds, none of either holds
numbered_lacks : (cs : List Check) → numbered cs ≡ true → lacks 0 cs ≡ true
numbered_lacks [] e = refl
numbered_lacks (c ∷ cs) e =
    let parts = numbered_parts c cs e in
    rw (ne_eqb c.number 0 (λ z. omega (arith, parts.low))) (numbered_lacks cs parts.rest)

pub none_holds : (xs ys : List Check) → numbered xs ≡ true → first (xs ++ ys) ≡ 0 → Later xs ys 0
none_holds xs ys e z = comes_later xs ys 0 e (numbered_lacks xs e) z

-- where none of the checks at the front holds, those after them decide
pub passed_by : (xs ys : List Check) → numbered xs ≡ true → first xs ≡ 0 → first (xs ++ ys) ≡ first ys
passed_by xs ys e z = first_append xs ys e ∙ rw z

pub stopped_by : (xs ys : List Check) → numbered xs ≡ true → (first xs ≡ 0 → ⊥) → first (xs ++ ys) ≡ first xs
stopped_by xs ys e nz = first_append xs ys e ∙ rw (ne_eqb (first xs) 0 nz)

-- whether the check with this number holds
abbrev pub at : ℕ → List Check → Bool
at k [] = false
at k (c ∷ cs) = cond (eqb c.number k) c.holds (at k cs)

pub passed_at : (cs : List Check) → numbered cs ≡ true → first cs ≡ 0 → (k : ℕ) → at k cs ≡ false
passed_at [] e z k = refl
passed_at (c ∷ cs) e z k =
    let parts = numbered_parts c cs e in
    by c.holds refl z parts.low (λ f. passed_at cs parts.rest f k) (eqb c.number k)
  where
    by : (t : Bool) → c.holds ≡ t → cond t c.number (first cs) ≡ 0 → 1 ≤ c.number → (first cs ≡ 0 → at k cs ≡ false) → (u : Bool)
        → cond u c.holds (at k cs) ≡ false
    by true p f low later u = absurd (omega arith)
    by false p f low later true = p
    by false p f low later false = later f

-- checks with numbers below 256 come to one
abbrev pub small : List Check → Bool
small [] = true
small (c ∷ cs) = ltb c.number 256 && small cs

pub first_small : (cs : List Check) → small cs ≡ true → first cs < 256
first_small [] e = omega arith
first_small (c ∷ cs) e =
    let parts = both (ltb c.number 256) (small cs) e in
    by c.holds (ltb-true c.number 256 parts.0) (first_small cs parts.1)
  where
    by : (t : Bool) → c.number < 256 → first cs < 256 → cond t c.number (first cs) < 256
    by true h g = h
    by false h g = g

-- Bytes compared from the first: a strict order of all byte runs.
-- Assumes nothing.
use mathlib.Core.Path.{◌≡◌, refl, sym, ap, ap₂, ◌∙◌}
use mathlib.Core.List.{List, [], ◌∷◌}
use mathlib.Core.Logic.{◌⊎◌, inl, inr, ⊎_elim}
use mathlib.Core.Bool.{true, false, true≢false, or-true}
use Prim.Native.Nat.{ℕ, ◌<◌}
use native.Mathlib.Omega.{arith}
use borrow.Author.Tests.{ltb-true, ltb-false, eqb-true, lt-ltb, le-ltb, eq-eqb}
use lib.Dec.{eqb, ltb}
use Rattle.cells.proofs.Tests.{tested, both}
use Rattle.table.proofs.Tests.{refuted}
use Rattle.index.specs.Index.{precedes}

-- the first bytes decide, or the rest
split : (x y : ℕ) (xs ys : List ℕ) → precedes (x ∷ xs) (y ∷ ys) ≡ true → (x < y) ⊎ ((x ≡ y) × (precedes xs ys ≡ true))
unfolding precedes
split x y xs ys e =
    tested (ltb x y) (λ t. inl (ltb-true x y t))
    (λ t. let parts = both (eqb x y) (precedes xs ys) (rw t at e) in inr (eqb-true x y parts.0, parts.1))

by_first : (x y : ℕ) (xs ys : List ℕ) → x < y → precedes (x ∷ xs) (y ∷ ys) ≡ true
unfolding precedes
by_first x y xs ys l = rw (lt-ltb x y l)

by_rest : (x y : ℕ) (xs ys : List ℕ) → x ≡ y → precedes xs ys ≡ true → precedes (x ∷ xs) (y ∷ ys) ≡ true
unfolding precedes
by_rest x y xs ys e p = rw (eq-eqb x y e, p) (or-true (ltb x y))

pub precedes_self : (xs : List ℕ) → precedes xs xs ≡ false
unfolding precedes
precedes_self [] = refl
precedes_self (x ∷ xs) = rw (le-ltb x x (omega arith), eq-eqb x x refl, precedes_self xs)

pub precedes_trans : (xs ys zs : List ℕ) → precedes xs ys ≡ true → precedes ys zs ≡ true → precedes xs zs ≡ true
unfolding precedes
precedes_trans [] [] zs p q = absurd (true≢false (sym p))
precedes_trans [] (y ∷ ys) [] p q = absurd (true≢false (sym q))
precedes_trans [] (y ∷ ys) (z ∷ zs) p q = refl
precedes_trans (x ∷ xs) [] zs p q = absurd (true≢false (sym p))
precedes_trans (x ∷ xs) (y ∷ ys) [] p q = absurd (true≢false (sym q))
precedes_trans (x ∷ xs) (y ∷ ys) (z ∷ zs) p q =
    ⊎_elim (λ l. ⊎_elim (λ m. by_first x z xs zs (omega arith)) (λ m. by_first x z xs zs (omega (arith, m.0))) (split y z ys zs q))
    (λ l. ⊎_elim (λ m. by_first x z xs zs (omega (arith, l.0))) (λ m. by_rest x z xs zs (l.0 ∙ m.0) (precedes_trans xs ys zs l.1 m.1)) (split y z ys zs q))
    (split x y xs ys p)

-- runs of which neither precedes the other are one
precedes_one : (xs ys : List ℕ) → precedes xs ys ≡ false → precedes ys xs ≡ false → xs ≡ ys
unfolding precedes
precedes_one [] [] p q = refl
precedes_one [] (y ∷ ys) p q = absurd (true≢false p)
precedes_one (x ∷ xs) [] p q = absurd (true≢false q)
precedes_one (x ∷ xs) (y ∷ ys) p q =
    let less = ltb-false x y (refuted (ltb x y) (λ t. true≢false (sym (by_first x y xs ys (ltb-true x y t)) ∙ p))) in
    let more = ltb-false y x (refuted (ltb y x) (λ t. true≢false (sym (by_first y x ys xs (ltb-true y x t)) ∙ q))) in
    let first : x ≡ y = omega arith in
    ap₂ ◌∷◌ first
    (precedes_one xs ys (refuted (precedes xs ys) (λ t. true≢false (sym (by_rest x y xs ys first t) ∙ p)))
    (refuted (precedes ys xs) (λ t. true≢false (sym (by_rest y x ys xs (sym first) t) ∙ q))))

-- what does not precede is the same or comes after
pub follows : (xs ys : List ℕ) → precedes xs ys ≡ false → (xs ≡ ys → ⊥) → precedes ys xs ≡ true
follows xs ys p n = tested (precedes ys xs) (λ t. t) (λ t. absurd (n (precedes_one xs ys p t)))

pub follows_trans : (xs ys zs : List ℕ) → precedes ys xs ≡ false → precedes zs ys ≡ false → precedes zs xs ≡ false
follows_trans xs ys zs p q =
    refuted (precedes zs xs) (λ t. tested (precedes xs ys)
    (λ u. true≢false (sym (precedes_trans zs xs ys t u) ∙ q))
    (λ u. true≢false (sym t ∙ ap (precedes zs) (precedes_one xs ys u p) ∙ q)))

-- The test of two runs: it holds exactly of equal runs, and a loop can make it by gathering the differences.
-- Assumes nothing.
use mathlib.Core.Path.{◌≡◌, refl, sym, ap, ap₂, ◌∙◌}
use mathlib.Core.List.{List, [], ◌∷◌, ◌++◌}
use mathlib.Core.Bool.{Bool, true, false, false≢true, ◌&&◌, and-true, and_assoc, and_comm}
use Prim.Native.Nat.{ℕ, suc, ◌+◌, ◌≤◌, ◌<◌}
use native.Mathlib.Numerals.{add-one}
use native.Mathlib.Omega.{arith}
use borrow.Author.Tests.{eqb-true, eq-eqb}
use lib.Bits.{bit_or, bit_xor, or_add_and, xor_add_and, and_le_l, and_le_r, xor_self}
use lib.Dec.{eqb}
use lib.ListN.{length, get_or, drop, drop_of_length-le}
use lib.Seq.{drop-cons}
use Rattle.cells.specs.Runs.{same}
use Rattle.cells.proofs.Tests.{both}

pub same_equal : (xs ys : List ℕ) → same xs ys ≡ true → xs ≡ ys
unfolding same
same_equal [] [] e = refl
same_equal [] (y ∷ ys) e = absurd (false≢true e)
same_equal (x ∷ xs) [] e = absurd (false≢true e)
same_equal (x ∷ xs) (y ∷ ys) e =
    let parts = both (same xs ys) (eqb x y) e in ap₂ ◌∷◌ (eqb-true x y parts.1) (same_equal xs ys parts.0)

pub same_self : (xs : List ℕ) → same xs xs ≡ true
unfolding same
same_self [] = refl
same_self (x ∷ xs) = rw (same_self xs) (eq-eqb x x refl)

-- runs that begin alike
pub same_prefix : (p xs ys : List ℕ) → same (p ++ xs) (p ++ ys) ≡ same xs ys
unfolding same
same_prefix [] xs ys = refl
same_prefix (b ∷ p) xs ys = rw (eq-eqb b b refl) (and-true (same (p ++ xs) (p ++ ys)) ∙ same_prefix p xs ys)

-- two tests are one if each holds where the other does
alike : (s t : Bool) → (s ≡ true → t ≡ true) → (t ≡ true → s ≡ true) → s ≡ t
alike true t to from = sym (to refl)
alike false true to from = from refl
alike false false to from = refl

pub same_not : (xs ys : List ℕ) → (xs ≡ ys → ⊥) → same xs ys ≡ false
same_not xs ys differ = alike (same xs ys) false (λ e. absurd (differ (same_equal xs ys e))) (λ e. absurd (false≢true e))

pub same_comm : (xs ys : List ℕ) → same xs ys ≡ same ys xs
same_comm xs ys = alike (same xs ys) (same ys xs) (turned xs ys) (turned ys xs)
  where
    turned : (us vs : List ℕ) → same us vs ≡ true → same vs us ≡ true
    turned us vs e = rw (same_equal us vs e) (same_self vs)

-- differences gathered are none exactly if there were none and there is none now
gathered : (d x y : ℕ) → eqb (bit_or d (bit_xor x y)) 0 ≡ (eqb d 0 && eqb x y)
gathered d x y =
    let sum = or_add_and d (bit_xor x y) in
    let left = and_le_l d (bit_xor x y) in
    let right = and_le_r d (bit_xor x y) in
    alike (eqb (bit_or d (bit_xor x y)) 0) (eqb d 0 && eqb x y)
    (λ e. let none = eqb-true (bit_or d (bit_xor x y)) 0 e in
    rw (eq-eqb d 0 (omega arith)) (eq-eqb x y (omega (arith, xor_add_and x y, and_le_l x y, and_le_r x y))))
    (λ e. let parts = both (eqb d 0) (eqb x y) e in
    ap (λ (n : ℕ). eqb (bit_or n (bit_xor x y)) 0) (eqb-true d 0 parts.0)
    ∙ ap (λ (n : ℕ). eqb (bit_or 0 (bit_xor n y)) 0) (eqb-true x y parts.1) ∙ ap (λ (n : ℕ). eqb (bit_or 0 n) 0) (xor_self y))

-- a turn of the loop that gathers the differences, and its end
pub compared_more : (xs ys : List ℕ) (i d : ℕ) → i < length xs → i < length ys → same xs ys ≡ (eqb d 0 && same (drop i xs) (drop i ys))
    → same xs ys ≡ (eqb (bit_or d (bit_xor (get_or xs i 0) (get_or ys i 0))) 0 && same (drop (i + 1) xs) (drop (i + 1) ys))
unfolding same
compared_more xs ys i d h k e =
    e ∙ rw (add-one, drop-cons xs i 0 h, drop-cons ys i 0 k, gathered)
    (ap (λ (t : Bool). eqb d 0 && t) (and_comm (same (drop (suc i) xs) (drop (suc i) ys)) _) ∙ sym (and_assoc (eqb d 0) _ _))

pub compared_all : (xs ys : List ℕ) (i : ℕ) (t : Bool) → length xs ≤ i → length ys ≤ i → (t && same (drop i xs) (drop i ys)) ≡ t
unfolding same
compared_all xs ys i t h k = rw (drop_of_length-le xs {i = i} h, drop_of_length-le ys {i = i} k) (and-true t)

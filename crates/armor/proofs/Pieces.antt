-- Laws of a run cut at a byte.
-- Assumes nothing.
use mathlib.Core.Path.{◌≡◌, refl, ap}
use mathlib.Core.Bool.{not}
use mathlib.Core.List.{List, [], ◌∷◌, ◌++◌}
use Prim.Native.Nat.{ℕ, zero, suc, ◌<◌, ◌≤◌}
use native.Mathlib.Nat.{not-suc-le-zero, le_of_suc-le-suc}
use native.Mathlib.Omega.{arith}
use lib.Dec.{eqb}
use lib.ListN.{length, take, drop, length-take}
use borrow.Author.Tests.{eqb-true, eqb-false, eq-eqb, ne_eqb}
use Rattle.cells.specs.Spans.{leading}
use Rattle.armor.specs.Pieces.{up_to, after, onto, pieces, Without, semicolon}
use Rattle.cells.proofs.Tests.{tested}

-- as many bytes stand before b as are not b at the front
pub leading_up_to : (b : ℕ) (xs : List ℕ) → leading (λ x. not (eqb x b)) xs ≡ length (up_to b xs)
unfolding leading up_to
leading_up_to b [] = refl
leading_up_to b (x ∷ xs) = tested (eqb x b) (λ e. simp e) (λ e. simp (e, leading_up_to b xs))

-- what stands before b is a part of the run, and so is what stands after it
pub taken_up_to : (b : ℕ) (xs : List ℕ) → take (length (up_to b xs)) xs ≡ up_to b xs
unfolding up_to
taken_up_to b [] = refl
taken_up_to b (x ∷ xs) = tested (eqb x b) (λ e. simp e) (λ e. simp (e, taken_up_to b xs))

pub dropped_after : (b : ℕ) (xs : List ℕ) → drop (suc (length (up_to b xs))) xs ≡ after b xs
unfolding up_to after
dropped_after b [] = refl
dropped_after b (x ∷ xs) = tested (eqb x b) (λ e. simp e) (λ e. simp (e, dropped_after b xs))

pub length_up_to : (b : ℕ) (xs : List ℕ) → length (up_to b xs) ≤ length xs
length_up_to b xs = omega (arith, ap length (taken_up_to b xs), length-take (length (up_to b xs)) xs)

-- runs without b
pub without_none : (b : ℕ) → Without b []
without_none b i inside = absurd (not-suc-le-zero inside)

pub without_first : (b x : ℕ) (xs : List ℕ) → (x ≡ b → ⊥) → Without b xs → Without b (x ∷ xs)
without_first b x xs ne h zero inside = ne
without_first b x xs ne h (suc i) inside = h i (le_of_suc-le-suc inside)

pub without_rest : (b x : ℕ) (xs : List ℕ) → Without b (x ∷ xs) → Without b xs
without_rest b x xs h i inside = h (suc i) (omega arith)

-- b does not stand before the first b
pub up_to_without : (b : ℕ) (xs : List ℕ) → Without b (up_to b xs)
unfolding up_to
up_to_without b [] = without_none b
up_to_without b (x ∷ xs) = tested (eqb x b) (λ e. rw e (without_none b)) (λ e. rw e (without_first b x (up_to b xs) (eqb-false x b e) (up_to_without b xs)))

-- a run is what stands before b, b and what stands after it, where anything does
pub split_at_first : (b : ℕ) (xs : List ℕ) → 0 < length (after b xs) → xs ≡ up_to b xs ++ b ∷ after b xs
unfolding up_to after
split_at_first b [] some = absurd (not-suc-le-zero some)
split_at_first b (x ∷ xs) some =
    tested (eqb x b) (λ e. rw e (ap (λ (y : ℕ). y ∷ xs) (eqb-true x b e)))
    (λ e. rw e (ap (λ (l : List ℕ). x ∷ l) (split_at_first b xs (rw e at some))))

pub up_to_joined : (b : ℕ) (xs ys : List ℕ) → Without b xs → up_to b (xs ++ b ∷ ys) ≡ xs
unfolding up_to
up_to_joined b [] ys h = simp (eq-eqb b b refl)
up_to_joined b (x ∷ xs) ys h = simp (ne_eqb x b (h 0 (omega arith)), up_to_joined b xs ys (without_rest b x xs h))

pub after_joined : (b : ℕ) (xs ys : List ℕ) → Without b xs → after b (xs ++ b ∷ ys) ≡ ys
unfolding after
after_joined b [] ys h = simp (eq-eqb b b refl)
after_joined b (x ∷ xs) ys h = simp (ne_eqb x b (h 0 (omega arith)), after_joined b xs ys (without_rest b x xs h))

-- the first piece, and those after it
pub pieces_cut : (x : ℕ) (xs : List ℕ) → pieces (x ∷ xs) ≡ up_to semicolon (x ∷ xs) ∷ pieces (after semicolon (x ∷ xs))
unfolding pieces up_to after
pieces_cut x [] = tested (eqb x semicolon) (λ e. simp e) (λ e. simp e)
pieces_cut x (y ∷ ys) = tested (eqb x semicolon) (λ e. rw e) (λ e. rw e (ap (onto x) (pieces_cut y ys)))

-- the pieces of runs without ; that stand side by side
pub pieces_one : (p : List ℕ) → 0 < length p → Without semicolon p → pieces p ≡ p ∷ []
unfolding pieces
pieces_one [] some h = absurd (not-suc-le-zero some)
pieces_one (x ∷ []) some h = simp (ne_eqb x semicolon (h 0 some))
pieces_one (x ∷ y ∷ p) some h =
    rw (ne_eqb x semicolon (h 0 some)) (ap (onto x) (pieces_one (y ∷ p) (omega arith) (without_rest semicolon x (y ∷ p) h)))

pub pieces_next : (p w : List ℕ) → Without semicolon p → pieces (p ++ semicolon ∷ w) ≡ p ∷ pieces w
unfolding pieces
pieces_next [] w h = refl
pieces_next (x ∷ p) w h = rw (ne_eqb x semicolon (h 0 (omega arith))) (ap (onto x) (pieces_next p w (without_rest semicolon x p h)))

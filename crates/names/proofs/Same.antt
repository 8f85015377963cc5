-- Laws of names that are the same: their lengths are equal, they are the same from each index on, and no test of names tells them apart.
-- Assumes nothing.
use mathlib.Core.Path.{◌≡◌, refl, sym, ap, ◌∙◌}
use mathlib.Core.List.{List, [], ◌∷◌, map}
use mathlib.Core.Bool.{Bool, true, false, false≢true, and_comm}
use Prim.Native.Nat.{ℕ}
use native.Mathlib.Omega.{arith}
use borrow.Author.Tests.{ltb-true, ltb-false, le-leb, lt-leb}
use lib.Dec.{eqb, leb, ltb}
use Rattle.std.specs.Prelude.{IsTrue, ◌↔◌}
use Rattle.std.specs.Char.{to_ascii_lowercase}
use Rattle.cells.specs.Runs.{same}
use Rattle.cells.proofs.Equality.{same_equal, same_self, same_comm}
use Rattle.cells.proofs.Tests.{tested}
use Rattle.names.specs.Names.{lower, same_name}

-- names are the same exactly if their bytes are, once in lower case
pub same_lowered : (a b : List ℕ) → same_name a b ≡ same (map lower a) (map lower b)
unfolding same_name same
same_lowered [] [] = refl
same_lowered [] (y ∷ ys) = refl
same_lowered (x ∷ xs) [] = refl
same_lowered (x ∷ xs) (y ∷ ys) = rw (same_lowered xs ys) (and_comm (eqb (lower x) (lower y)) _)

pub lowered_equal : (a b : List ℕ) → same_name a b ≡ true → map lower a ≡ map lower b
lowered_equal a b e = same_equal (map lower a) (map lower b) (sym (same_lowered a b) ∙ e)

-- so what is the same as a name is the same as each name that is the same as that one
pub same_left : (a b c : List ℕ) → same_name a b ≡ true → same_name a c ≡ same_name b c
same_left a b c e = same_lowered a c ∙ ap (λ (l : List ℕ). same l (map lower c)) (lowered_equal a b e) ∙ sym (same_lowered b c)

pub same_right : (a b c : List ℕ) → same_name b c ≡ true → same_name a b ≡ same_name a c
same_right a b c e = same_lowered a b ∙ ap (same (map lower a)) (lowered_equal b c e) ∙ sym (same_lowered a c)

pub same_itself : (a : List ℕ) → same_name a a ≡ true
same_itself a = same_lowered a a ∙ same_self (map lower a)

pub same_turned : (a b : List ℕ) → same_name a b ≡ same_name b a
same_turned a b = same_lowered a b ∙ same_comm (map lower a) (map lower b) ∙ sym (same_lowered b a)

-- std's lower case is the same
pub lower_is : (b : ℕ) → to_ascii_lowercase b ≡ lower b
unfolding lower
lower_is b =
    tested (ltb b 65) (λ t. rw (t, lt-leb 65 b (ltb-true b 65 t)) refl)
    (λ t. tested (ltb b 91)
    (λ u. let low : leb b 90 ≡ true = le-leb b 90 (omega (arith, ltb-true b 91 u)) in rw (t, u, le-leb 65 b (ltb-false b 65 t), low) refl)
    (λ u. let high : leb b 90 ≡ false = lt-leb b 90 (omega (arith, ltb-false b 91 u)) in rw (t, u, le-leb 65 b (ltb-false b 65 t), high) refl))

all_lower : (a : List ℕ) → map to_ascii_lowercase a ≡ map lower a
all_lower [] = refl
all_lower (b ∷ bs) = rw (lower_is b, all_lower bs) refl

-- and so is its comparison
pub same_ignoring : (r : Bool) (a b : List ℕ) → (IsTrue r ↔ (map to_ascii_lowercase a ≡ map to_ascii_lowercase b)) → r ≡ same_name a b
same_ignoring r a b h =
    tested (same_name a b) (λ e. rw e (h.1 (all_lower a ∙ lowered_equal a b e ∙ sym (all_lower b))))
    (λ e. rw e (tested r (λ t. absurd (false≢true (sym e ∙ same_lowered a b ∙ rw (sym (all_lower a) ∙ h.0 t ∙ all_lower b) (same_self (map lower b))))) (λ t. t)))

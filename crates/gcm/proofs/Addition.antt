-- Adding bit by bit: the same addition once more takes it back.
-- Assumes nothing.
use mathlib.Core.List.{List, [], ◌∷◌, ◌++◌}
use mathlib.Core.Path.{◌≡◌, refl, ap, ap₂, ◌∙◌}
use Prim.Native.Nat.{ℕ, zero, suc, ◌*◌, ◌/◌, ◌%◌, ◌+◌, ◌<◌, ◌≤◌}
use native.Mathlib.Nat.{div-add-mod', mod-lt, le_of_suc-le-suc, not-suc-le-zero}
use native.Mathlib.Omega.{arith}
use lib.Arith.{bin_ind}
use lib.Bits.{bit_xor, differ, xor_step, xor_self, xor_shr, xor_mod}
use lib.ListN.{length, get_or, take}
use Rattle.gcm.specs.Gctr.{added}

-- of two binary digits
digit_back : (x y : ℕ) → x < 2 → y < 2 → differ (bit_xor x y) y ≡ x
digit_back zero zero h k = refl
digit_back zero (suc zero) h k = refl
digit_back (suc zero) zero h k = refl
digit_back (suc zero) (suc zero) h k = refl
digit_back (suc (suc x)) y h k = absurd (not-suc-le-zero (le_of_suc-le-suc (le_of_suc-le-suc h)))
digit_back zero (suc (suc y)) h k = absurd (not-suc-le-zero (le_of_suc-le-suc (le_of_suc-le-suc k)))
digit_back (suc zero) (suc (suc y)) h k = absurd (not-suc-le-zero (le_of_suc-le-suc (le_of_suc-le-suc k)))

-- a number added twice
pub xor_back : (a b : ℕ) → bit_xor (bit_xor a b) b ≡ a
xor_back =
    bin_ind (λ (a : ℕ). (b : ℕ) → bit_xor (bit_xor a b) b ≡ a) xor_self
    (λ a back b.
    xor_step (bit_xor a b) b
    ∙ ap₂ (λ (q r : ℕ). q * 2 + r) (ap (λ (n : ℕ). bit_xor n (b / 2)) (xor_shr a b 1) ∙ back (b / 2))
    (ap (λ (n : ℕ). differ n (b % 2)) (xor_mod a b 1) ∙ digit_back (a % 2) (b % 2) (mod-lt a (omega arith)) (mod-lt b (omega arith)))
    ∙ div-add-mod' a 2)

pub length_added : (xs ys : List ℕ) → length xs ≤ length ys → length (added xs ys) ≡ length xs
unfolding added
length_added [] ys h = refl
length_added (x ∷ xs) [] h = absurd (not-suc-le-zero h)
length_added (x ∷ xs) (y ∷ ys) h = ap suc (length_added xs ys (le_of_suc-le-suc h))

-- a run added twice
pub added_back : (xs ys : List ℕ) → length xs ≤ length ys → added (added xs ys) ys ≡ xs
unfolding added
added_back [] ys h = refl
added_back (x ∷ xs) [] h = absurd (not-suc-le-zero h)
added_back (x ∷ xs) (y ∷ ys) h = ap₂ ◌∷◌ (xor_back x y) (added_back xs ys (le_of_suc-le-suc h))

-- one element more
pub added_more : (xs ys : List ℕ) (i : ℕ) → i < length xs → i < length ys
    → added (take (suc i) xs) ys ≡ added (take i xs) ys ++ bit_xor (get_or xs i 0) (get_or ys i 0) ∷ []
unfolding added
added_more [] ys i h k = absurd (not-suc-le-zero h)
added_more (x ∷ xs) [] i h k = absurd (not-suc-le-zero k)
added_more (x ∷ xs) (y ∷ ys) zero h k = refl
added_more (x ∷ xs) (y ∷ ys) (suc i) h k =
    ap (λ (l : List ℕ). bit_xor x y ∷ l) (added_more xs ys i (le_of_suc-le-suc h) (le_of_suc-le-suc k))

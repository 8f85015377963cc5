-- Products in the field: by the constants of MixColumns, and by an inverse.
-- Assumes nothing.
use mathlib.Core.Bool.{Bool, true}
use mathlib.Core.Path.{◌≡◌, refl}
use Prim.Native.Nat.{ℕ, zero, suc, ◌≤◌, ◌<◌}
use native.Mathlib.Nat.{zero-mul, one-mul, le_of_suc-le-suc, not-suc-le-zero}
use lib.Bits.{bit_xor, xor_zero_l, xor_zero_r, xor_comm}
use lib.Dec.{eqb}
use borrow.Author.Tests.{eqb-true}
use Rattle.cells.proofs.Tests.{every_below, every_at}
use Rattle.aes.specs.Field.{xtimes, times_bits, times, squares}
use Rattle.aes.specs.Sbox.{inverse}

pub times_two : (b : ℕ) → times b 2 ≡ xtimes b
unfolding times times_bits
times_two b = simp (zero-mul, one-mul, xor_zero_l, xor_zero_r)

pub times_three : (b : ℕ) → times b 3 ≡ bit_xor (xtimes b) b
unfolding times times_bits
times_three b = simp (zero-mul, one-mul, xor_zero_l, xor_zero_r) (xor_comm b (xtimes b))

-- 4.4: the product of a byte other than 0 and its inverse is 1. The test is computed apart from what follows from it,
-- where the product of an unknown byte stays shut.
abbrev inverts : ℕ → Bool
inverts n = eqb (times (suc n) (inverse (suc n))) 1

every_inverts : every_below inverts 255 ≡ true
unfolding xtimes times_bits times squares inverse
every_inverts = refl

pub inverse_right : (b : ℕ) → 1 ≤ b → b < 256 → times b (inverse b) ≡ 1
inverse_right zero lo hi = absurd (not-suc-le-zero lo)
inverse_right (suc k) lo hi = eqb-true _ _ (every_at inverts 255 every_inverts k (le_of_suc-le-suc hi))

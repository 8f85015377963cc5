-- SP 800-38D, 6.3: the product of two blocks. A block is a number below 2^128, its leftmost bit the highest.
-- Assumes nothing.
use Rattle.std.specs.Prelude.{ℕ, zero, suc, ◌-◌, ◌*◌, ◌/◌, ◌%◌, ◌^◌}
use Rattle.std.specs.Int.Bits.{bit_xor}

-- R is 11100001 and 120 zeros
unfoldable pub reduction : ℕ
reduction = 0xe1 * 2 ^ 120

-- bit i of a block, from the left
unfoldable pub bit_at : ℕ → ℕ → ℕ
bit_at x i = x / 2 ^ (127 - i) % 2

-- what V becomes in a step: shifted to the right, and R added where its rightmost bit is 1
unfoldable pub halved : ℕ → ℕ
halved v = bit_xor (v / 2) (v % 2 * reduction)

-- V_i and Z_i of Algorithm 1, whose V_0 is y and whose Z_0 is 0; V_i is added to Z_i where bit i of x is 1
unfoldable pub v_at : ℕ → ℕ → ℕ
v_at y zero = y
v_at y (suc i) = halved (v_at y i)

unfoldable pub z_at : ℕ → ℕ → ℕ → ℕ
z_at x y zero = 0
z_at x y (suc i) = bit_xor (z_at x y i) (bit_at x i * v_at y i)

unfoldable pub product : ℕ → ℕ → ℕ
product x y = z_at x y 128

-- FIPS 197, 4: bytes as elements of the field GF(2^8), modulo x^8 + x^4 + x^3 + x + 1.
-- Assumes nothing.
use Rattle.std.specs.Prelude.{ℕ, zero, suc, ◌*◌, ◌/◌, ◌%◌}
use Rattle.std.specs.Int.Bits.{bit_xor}

-- 4.2: a product by x; 0x1b is taken off where a bit is shifted out
unfoldable pub xtimes : ℕ → ℕ
xtimes b = bit_xor (b * 2 % 256) (b / 128 * 0x1b)

-- 4.2: the sum of b, b x, b x^2, .. over the n lowest bits of c that are set
unfoldable pub times_bits : ℕ → ℕ → ℕ → ℕ
times_bits zero b c = 0
times_bits (suc n) b c = bit_xor (c % 2 * b) (times_bits n (xtimes b) (c / 2))

-- 4.2: the product of two bytes
unfoldable pub times : ℕ → ℕ → ℕ
times b c = times_bits 8 b c

-- x^n
unfoldable pub power_of_x : ℕ → ℕ
power_of_x zero = 1
power_of_x (suc n) = xtimes (power_of_x n)

-- the product of b, b^2, b^4, b^8, ..: n factors, each the square of the one before it
unfoldable pub squares : ℕ → ℕ → ℕ
squares zero b = 1
squares (suc n) b = times b (squares n (times b b))

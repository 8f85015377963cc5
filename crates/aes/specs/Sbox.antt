-- FIPS 197, 5.1.1: the substitution of a byte.
-- Assumes nothing.
use Rattle.std.specs.Prelude.{ℕ, zero, suc, ◌+◌, ◌*◌, ◌/◌, ◌%◌, ◌^◌}
use Rattle.std.specs.Int.Bits.{bit_xor}
use Rattle.aes.specs.Field.{times, squares}

-- 4.4: the inverse of b is b^254, which is b^2 b^4 b^8 b^16 b^32 b^64 b^128; 0 goes to 0
unfoldable pub inverse : ℕ → ℕ
inverse b = squares 7 (times b b)

abbrev pub bit : ℕ → ℕ → ℕ
bit b i = b / 2 ^ i % 2

-- bit i of the affine map of b, where c is 0x63
unfoldable pub affine_bit : ℕ → ℕ → ℕ
affine_bit b i =
    bit_xor (bit b i)
    (bit_xor (bit b ((i + 4) % 8))
    (bit_xor (bit b ((i + 5) % 8)) (bit_xor (bit b ((i + 6) % 8)) (bit_xor (bit b ((i + 7) % 8)) (bit 0x63 i)))))

-- the n lowest bits of the affine map of b
unfoldable pub affine_bits : ℕ → ℕ → ℕ
affine_bits b zero = 0
affine_bits b (suc n) = affine_bits b n + affine_bit b n * 2 ^ n

unfoldable pub sub_byte : ℕ → ℕ
sub_byte b = affine_bits (inverse b) 8

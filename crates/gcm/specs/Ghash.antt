-- SP 800-38D, 6.4: GHASH of a run of whole blocks.
-- Assumes nothing.
use Rattle.std.specs.Prelude.{List, ℕ, zero, suc, ◌*◌, ◌/◌, length}
use Rattle.std.specs.Int.Bits.{bit_xor}
use Rattle.cells.specs.Runs.{part}
use Rattle.cells.specs.Numbers.{number}
use Rattle.gcm.specs.Multiply.{product}

-- Y_n: the blocks before block n of xs taken in
unfoldable pub hashed : ℕ → List ℕ → ℕ → ℕ
hashed h xs zero = 0
hashed h xs (suc n) = product (bit_xor (hashed h xs n) (number (part xs (16 * n) 16))) h

unfoldable pub ghash : ℕ → List ℕ → ℕ
ghash h xs = hashed h xs (length xs / 16)

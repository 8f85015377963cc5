-- SP 800-38D, 6.2 and 6.5: counters, and GCTR over a run of any length with AES-256.
-- Assumes nothing.
use Rattle.std.specs.Prelude.{List, [], ◌∷◌, ◌++◌, ℕ, zero, suc, ◌+◌, ◌*◌, ◌/◌, ◌%◌, ◌^◌, length}
use Rattle.std.specs.Int.Bits.{bit_xor}
use Rattle.aes.specs.Cipher.{aes256}
use Rattle.cells.specs.Runs.{part}
use Rattle.cells.specs.Numbers.{bytes_of}

-- inc32: one more in the 32 rightmost bits
unfoldable pub inc32 : ℕ → ℕ
inc32 x = x / 2 ^ 32 * 2 ^ 32 + (x % 2 ^ 32 + 1) % 2 ^ 32

-- the counter block n steps after icb
unfoldable pub counter_at : ℕ → ℕ → ℕ
counter_at icb zero = icb
counter_at icb (suc n) = inc32 (counter_at icb n)

-- two runs added bit by bit, as far as both go: the last block of a run may be short
unfoldable pub added : List ℕ → List ℕ → List ℕ
added [] ys = []
added (x ∷ xs) [] = []
added (x ∷ xs) (y ∷ ys) = bit_xor x y ∷ added xs ys

-- block n of xs, added to the cipher of its counter block
unfoldable pub masked_block : List ℕ → ℕ → List ℕ → ℕ → List ℕ
masked_block key icb xs n = added (part xs (16 * n) 16) (aes256 key (bytes_of 16 (counter_at icb n)))

-- the first n blocks
unfoldable pub masked : List ℕ → ℕ → List ℕ → ℕ → List ℕ
masked key icb xs zero = []
masked key icb xs (suc n) = masked key icb xs n ++ masked_block key icb xs n

unfoldable pub gctr : List ℕ → ℕ → List ℕ → List ℕ
gctr key icb xs = masked key icb xs ((length xs + 15) / 16)

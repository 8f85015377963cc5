-- The hash of a message: FIPS 180-4, 5.1, 5.2, 6.2.2 and 6.4.2.
-- Assumes nothing.
use Rattle.std.specs.Prelude.{ℕ, zero, suc, ◌-◌, ◌*◌, ◌/◌, ◌%◌, List, ◌∷◌, ◌++◌, length, replicate}
use Rattle.cells.specs.Numbers.{bytes_of}
use Rattle.cells.specs.Runs.{part}
use Rattle.hashes.specs.declared.Hash.{Hash}
use Rattle.hashes.specs.declared.Hash.TheVariants.{Sha256, Sha512}
use Rattle.sha_2.specs.Numbers.{Numbers}
use Rattle.sha_2.specs.Word.{width}
use Rattle.sha_2.specs.Constants.{initial}
use Rattle.sha_2.specs.Block.{after_block}

-- bytes in a block: sixteen words
abbrev pub block_size : Hash → ℕ
block_size Sha256 = 64
block_size Sha512 = 128

-- 5.1: how many zero bytes: the least z such that n + 1 + z bytes end two words before the end of a block
abbrev pub zeros : Hash → ℕ → ℕ
zeros Sha256 n = (119 - n % 64) % 64
zeros Sha512 n = (239 - n % 128) % 128

-- 5.1: what follows a message of n bytes: the bit 1, zero bits, and the length in bits as a number of two words
unfoldable pub padding : Hash → ℕ → List ℕ
padding h n = 128 ∷ (replicate (zeros h n) 0 ++ bytes_of (2 * width h) (8 * n))

abbrev pub padded : Hash → List ℕ → List ℕ
padded h m = m ++ padding h (length m)

-- 5.2, 6.2.2 and 6.4.2: the hash value v after the first n blocks of m
unfoldable pub after_blocks : Hash → Numbers → List ℕ → ℕ → Numbers
after_blocks h v m zero = v
after_blocks h v m (suc n) = after_block h (after_blocks h v m n) (part m (block_size h * n) (block_size h))

-- the hash value as bytes
unfoldable pub digest : Hash → Numbers → List ℕ
digest h v =
    bytes_of (width h) v.a ++ bytes_of (width h) v.b ++ bytes_of (width h) v.c ++ bytes_of (width h) v.d
    ++ bytes_of (width h) v.e
    ++ bytes_of (width h) v.f
    ++ bytes_of (width h) v.g
    ++ bytes_of (width h) v.h

unfoldable pub sha2 : Hash → List ℕ → List ℕ
sha2 h m = digest h (after_blocks h (initial h) (padded h m) (length (padded h m) / block_size h))

abbrev pub sha256 : List ℕ → List ℕ
sha256 = sha2 Sha256

abbrev pub sha512 : List ℕ → List ℕ
sha512 = sha2 Sha512

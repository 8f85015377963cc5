-- Whether a request covers what the orders say: document 01, number 8, and document 02, K2, for h and c.
-- Assumes nothing.
use Rattle.std.specs.Prelude.{Bool, ◌&&◌, List, [], ◌∷◌, ℕ, eqb, length}
use Rattle.cells.specs.Runs.{same}
use Rattle.hashes.specs.Hashes.{digest_size, named, allowed_one}
use Rattle.armor.specs.Numerals.{mask_bytes, mask_of}
use Rattle.armor.specs.Keys.{key_h, key_ah, key_c, key_eah}
use Rattle.armor.specs.Value.{Field}
use Rattle.armor.specs.Fields.{times, the}

-- eah is not carried without extra names, and is carried with them, byte for byte
abbrev pub extra_as_ordered : List ℕ → List Field → Bool
extra_as_ordered [] fs = eqb (times key_eah fs) 0
extra_as_ordered (b ∷ bs) fs = eqb (times key_eah fs) 1 && same (the key_eah fs) (b ∷ bs)

-- h names one allowed hash alone, and c is as long as its digests
abbrev pub hash_as_ordered : ℕ → List Field → Bool
hash_as_ordered hashes fs =
    allowed_one hashes (mask_of (the key_h fs)) && eqb (length (the key_c fs)) (digest_size (named (mask_of (the key_h fs))))

-- h, c, ah and eah are those that the orders say
unfoldable pub as_ordered : ℕ → ℕ → List ℕ → List Field → Bool
as_ordered hashes mask extra fs = hash_as_ordered hashes fs && (same (the key_ah fs) (mask_bytes mask) && extra_as_ordered extra fs)

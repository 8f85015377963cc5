-- A field of every setup's reply.
-- Assumes nothing.
use mathlib.Core.Path.{◌≡◌, refl}
use Prim.Native.String.{String}
use Rattle.cells.specs.Numbers.{bytes_of}
use Rattle.base_64.specs.Alphabet.{counted, alphabet, character}
use Rattle.base_64.specs.Encoding.{encoded}
use Rattle.cells.specs.Text.{codes}
use Rattle.hashes.specs.declared.Hash.{Hash}
use Rattle.hashes.specs.declared.Hash.TheVariants.{Sha256, Sha512}
use Rattle.hashes.specs.Hashes.{hash_mask}
use Rattle.armor.specs.Numerals.{shortest, number_bytes, mask_bytes}
use Rattle.armor.specs.Value.{field, field_text}

abbrev hash_text : Hash → String
hash_text Sha256 = "h:AQE="
hash_text Sha512 = "h:AQQ="

pub hash_field : (hash : Hash) → field_text (field (codes "h") (mask_bytes (hash_mask hash))) ≡ codes (hash_text hash)
unfolding field_text encoded character alphabet counted mask_bytes number_bytes shortest bytes_of codes
hash_field Sha256 = refl
hash_field Sha512 = refl

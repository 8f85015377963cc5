-- The hashes, and the masks that name them: document 001, Table 5.1, and document 02, K2.
-- Assumes nothing.
use Rattle.std.specs.Prelude.{◌≡◌, ℕ, ◌/◌, ◌%◌, Bool, cond, ◌&&◌, ◌||◌, eqb, Result, Ok, Err}
use Rattle.hashes.specs.declared.Hash.{Hash}
use Rattle.hashes.specs.declared.Hash.TheVariants.{Sha256, Sha512}
use Rattle.hashes.specs.declared.NotOneHash.{NotOneHash}

-- bit 0 is SHA-256, bit 2 SHA-512
abbrev pub hash_mask : Hash → ℕ
hash_mask Sha256 = 1
hash_mask Sha512 = 4

-- bytes in a digest
abbrev pub digest_size : Hash → ℕ
digest_size Sha256 = 32
digest_size Sha512 = 64

-- whether a hash is among those of a mask
abbrev pub has : Hash → ℕ → Bool
has Sha256 mask = eqb (mask % 2) 1
has Sha512 mask = eqb (mask / 4 % 2) 1

-- whether a mask names a hash alone, and which; SHA-512 where it does not
abbrev pub names_one : ℕ → Bool
names_one mask = eqb mask 1 || eqb mask 4

unfoldable pub named : ℕ → Hash
named mask = cond (eqb mask 1) Sha256 Sha512

-- what a mask gives as a hash: the one that it names alone, or that it names none alone
unfoldable pub NamedAlone : ℕ → Result Hash NotOneHash → Type 0
NamedAlone mask r = r ≡ cond (names_one mask) (Ok (named mask)) (Err (record {}))

-- orders allow one of the two, or both
abbrev pub good_allowed : ℕ → Bool
good_allowed hashes = eqb hashes 1 || (eqb hashes 4 || eqb hashes 5)

-- a mask names an allowed hash alone
unfoldable pub allowed_one : ℕ → ℕ → Bool
allowed_one hashes mask = (eqb mask 1 && has Sha256 hashes) || (eqb mask 4 && has Sha512 hashes)

-- client and orders have a hash in common, and the longest one
unfoldable pub in_common : ℕ → ℕ → Bool
in_common offered hashes = (has Sha256 offered && has Sha256 hashes) || (has Sha512 offered && has Sha512 hashes)

unfoldable pub chosen : ℕ → ℕ → Hash
chosen offered hashes = cond (has Sha512 offered && has Sha512 hashes) Sha512 Sha256

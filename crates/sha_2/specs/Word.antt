-- Words of 32 bits for SHA-256 and of 64 for SHA-512, as numbers, and the functions on them: FIPS 180-4, 2.2.2, 3.2, 4.1.2 and 4.1.3.
-- Assumes nothing.
use Rattle.std.specs.Prelude.{ℕ, ◌+◌, ◌-◌, ◌*◌, ◌/◌, ◌%◌, ◌^◌, bit_and, bit_or, bit_xor}
use Rattle.hashes.specs.declared.Hash.{Hash}
use Rattle.hashes.specs.declared.Hash.TheVariants.{Sha256, Sha512}

-- bytes and bits in a word
abbrev pub width : Hash → ℕ
width Sha256 = 4
width Sha512 = 8

abbrev pub bits : Hash → ℕ
bits Sha256 = 32
bits Sha512 = 64

infixl 60 ◌⊞⟨◌⟩◌
-- 3.2, 1: addition modulo 2 ^ w, where a word has w bits
abbrev pub ◌⊞⟨◌⟩◌ : ℕ → Hash → ℕ → ℕ
x ⊞⟨ h ⟩ y = (x + y) % 2 ^ bits h

-- 2.2.2: the complement
abbrev pub complement : ℕ → ℕ → ℕ
complement w x = 2 ^ w - 1 - x

-- 2.2.2 and 3.2, 3: x >> n, and x << n, which drops the n highest bits
abbrev pub SHR : ℕ → ℕ → ℕ
SHR n x = x / 2 ^ n

abbrev pub SHL : ℕ → ℕ → ℕ → ℕ
SHL w n x = x * 2 ^ n % 2 ^ w

-- 3.2, 4: (x >> n) ∨ (x << w - n)
abbrev pub ROTR : ℕ → ℕ → ℕ → ℕ
ROTR w n x = bit_or (SHR n x) (SHL w (w - n) x)

-- (4.2) and (4.8): (x ∧ y) ⊕ (¬ x ∧ z)
unfoldable pub Ch : Hash → ℕ → ℕ → ℕ → ℕ
Ch h x y z = bit_xor (bit_and x y) (bit_and (complement (bits h) x) z)

-- (4.3) and (4.9): (x ∧ y) ⊕ (x ∧ z) ⊕ (y ∧ z)
unfoldable pub Maj : ℕ → ℕ → ℕ → ℕ
Maj x y z = bit_xor (bit_xor (bit_and x y) (bit_and x z)) (bit_and y z)

-- (4.4) and (4.10)
unfoldable pub Σ0 : Hash → ℕ → ℕ
Σ0 Sha256 x = bit_xor (bit_xor (ROTR 32 2 x) (ROTR 32 13 x)) (ROTR 32 22 x)
Σ0 Sha512 x = bit_xor (bit_xor (ROTR 64 28 x) (ROTR 64 34 x)) (ROTR 64 39 x)

-- (4.5) and (4.11)
unfoldable pub Σ1 : Hash → ℕ → ℕ
Σ1 Sha256 x = bit_xor (bit_xor (ROTR 32 6 x) (ROTR 32 11 x)) (ROTR 32 25 x)
Σ1 Sha512 x = bit_xor (bit_xor (ROTR 64 14 x) (ROTR 64 18 x)) (ROTR 64 41 x)

-- (4.6) and (4.12)
unfoldable pub σ0 : Hash → ℕ → ℕ
σ0 Sha256 x = bit_xor (bit_xor (ROTR 32 7 x) (ROTR 32 18 x)) (SHR 3 x)
σ0 Sha512 x = bit_xor (bit_xor (ROTR 64 1 x) (ROTR 64 8 x)) (SHR 7 x)

-- (4.7) and (4.13)
unfoldable pub σ1 : Hash → ℕ → ℕ
σ1 Sha256 x = bit_xor (bit_xor (ROTR 32 17 x) (ROTR 32 19 x)) (SHR 10 x)
σ1 Sha512 x = bit_xor (bit_xor (ROTR 64 19 x) (ROTR 64 61 x)) (SHR 6 x)

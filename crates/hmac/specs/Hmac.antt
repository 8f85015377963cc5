-- HMAC over a hash function that works on blocks of size bytes: RFC 2104, section 2.
-- Assumes nothing.
use Rattle.std.specs.Prelude.{Bool, true, false, List, ◌++◌, map, ℕ, ◌-◌, ltb, length, replicate}
use Rattle.std.specs.Int.Bits.{bit_xor}
use Rattle.hashes.specs.declared.Hash.{Hash}
use Rattle.sha_2.specs.Hash.{block_size, sha2}

abbrev pick : Bool → List ℕ → List ℕ → List ℕ
pick true x y = x
pick false x y = y

-- zeros after xs, up to size bytes
abbrev pub filled : ℕ → List ℕ → List ℕ
filled size xs = xs ++ replicate (size - length xs) 0

-- the key as a block of size bytes: one that is longer than a block is hashed first
unfoldable pub key_block : (List ℕ → List ℕ) → ℕ → List ℕ → List ℕ
key_block hash size key = filled size (pick (ltb size (length key)) (hash key) key)

-- each byte of xs exclusive or x
unfoldable pub xored : ℕ → List ℕ → List ℕ
xored x xs = map (λ b. bit_xor b x) xs

-- the key block exclusive or ipad, which is the byte 0x36 in every place
abbrev pub inner_key : (List ℕ → List ℕ) → ℕ → List ℕ → List ℕ
inner_key hash size key = xored 0x36 (key_block hash size key)

-- the key block exclusive or opad, which is the byte 0x5c in every place
abbrev pub outer_key : (List ℕ → List ℕ) → ℕ → List ℕ → List ℕ
outer_key hash size key = xored 0x5c (key_block hash size key)

unfoldable pub hmac : (List ℕ → List ℕ) → ℕ → List ℕ → List ℕ → List ℕ
hmac hash size key text = hash (outer_key hash size key ++ hash (inner_key hash size key ++ text))

-- over SHA-256 and over SHA-512
abbrev pub hmac_of : Hash → List ℕ → List ℕ → List ℕ
hmac_of h = hmac (sha2 h) (block_size h)

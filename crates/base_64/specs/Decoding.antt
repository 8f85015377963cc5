-- The byte run of a text, if the text encodes one: RFC 4648, section 4, with the padding required and the spare bits zero (section 3.5).
-- `decoded_exactly` of proofs/Exactly.antt says that this is the inverse of `encoded`.
-- Assumes nothing.
use Rattle.std.specs.Prelude.{Bool, true, false, List, [], ◌∷◌, ◌++◌, ℕ, ◌+◌, ◌*◌, ◌/◌, ◌%◌, eqb, ltb, take}
use Rattle.base_64.specs.Alphabet.{six_bits, pad}

pub data Decoding : Type 0 where
  nothing : Decoding
  bytes : List ℕ → Decoding

abbrev pub pick : Bool → Decoding → Decoding → Decoding
pick true d e = d
pick false d e = e

abbrev pub both : Bool → Bool → Bool
both true t = t
both false t = false

-- the bytes of a group, and then those of what follows it
abbrev pub before : List ℕ → Decoding → Decoding
before xs nothing = nothing
before xs (bytes ys) = bytes (xs ++ ys)

-- d, if nothing follows it
abbrev pub last : Decoding → List ℕ → Decoding
last d [] = d
last d (c ∷ cs) = nothing

-- whether a byte is a character of the alphabet
unfoldable pub coded : ℕ → Bool
coded c = ltb (six_bits c) 64

-- four six-bit values in a row as 24 bits
abbrev pub joined : ℕ → ℕ → ℕ → ℕ → ℕ
joined w x y z = w * 262144 + x * 4096 + y * 64 + z

-- whether all four bytes of a group are characters
unfoldable pub full : ℕ → ℕ → ℕ → ℕ → Bool
full p q r s = both (coded p) (both (coded q) (both (coded r) (coded s)))

-- the three bytes of 24 bits
abbrev pub three : ℕ → List ℕ
three n = n / 65536 % 256 ∷ n / 256 % 256 ∷ n % 256 ∷ []

-- two bytes in three characters, of which the last has two spare bits
unfoldable pub two : ℕ → ℕ → ℕ → Decoding
two p q r =
    pick (both (coded p) (both (coded q) (both (coded r) (eqb (six_bits r % 4) 0))))
    (bytes (take 2 (three (joined (six_bits p) (six_bits q) (six_bits r) 0))))
    nothing

-- one byte in two characters, of which the last has four spare bits
unfoldable pub one : ℕ → ℕ → Decoding
one p q =
    pick (both (coded p) (both (coded q) (eqb (six_bits q % 16) 0)))
    (bytes (take 1 (three (joined (six_bits p) (six_bits q) 0 0))))
    nothing

-- a last group that = fills up
unfoldable pub ending : ℕ → ℕ → ℕ → ℕ → Decoding
ending p q r s = pick (eqb s pad) (pick (eqb r pad) (one p q) (two p q r)) nothing

unfoldable pub decoded : List ℕ → Decoding
decoded [] = bytes []
decoded (p ∷ []) = nothing
decoded (p ∷ q ∷ []) = nothing
decoded (p ∷ q ∷ r ∷ []) = nothing
decoded (p ∷ q ∷ r ∷ s ∷ rest) =
    pick (full p q r s) (before (three (joined (six_bits p) (six_bits q) (six_bits r) (six_bits s))) (decoded rest)) (last (ending p q r s) rest)

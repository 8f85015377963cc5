-- Numbers and masks as bytes: document 01, The X-S-Armor value.
-- Assumes nothing.
use Rattle.std.specs.Prelude.{Bool, true, false, cond, not, ◌&&◌, List, [], ◌∷◌, ℕ, eqb, leb, length}
use Rattle.cells.specs.Numbers.{bytes_of, number}

-- a run without its leading zero bytes; the last byte stays
unfoldable pub shortest : List ℕ → List ℕ
shortest [] = []
shortest (b ∷ []) = b ∷ []
shortest (b ∷ c ∷ bs) = cond (eqb b 0) (shortest (c ∷ bs)) (b ∷ c ∷ bs)

-- whether a run has no leading zero byte, or is one byte
unfoldable pub plain : List ℕ → Bool
plain [] = true
plain (b ∷ []) = true
plain (b ∷ c ∷ bs) = not (eqb b 0)

-- the bytes of a number below 2 ^ 64, highest first, without leading zero bytes; 0 is one zero byte
unfoldable pub number_bytes : ℕ → List ℕ
number_bytes n = shortest (bytes_of 8 n)

-- whether a run is the bytes of a number: 1 to k of them
unfoldable pub is_numeral : ℕ → List ℕ → Bool
is_numeral k bs = leb 1 (length bs) && (leb (length bs) k && plain bs)

-- t, lt and n: 1 to 4 bytes
unfoldable pub is_number : List ℕ → Bool
is_number bs = is_numeral 4 bs

-- a mask: a length byte, and then the bytes of its number, 1 to 8
unfoldable pub mask_bytes : ℕ → List ℕ
mask_bytes m = length (number_bytes m) ∷ number_bytes m

unfoldable pub is_mask : List ℕ → Bool
is_mask [] = false
is_mask (n ∷ bs) = eqb n (length bs) && is_numeral 8 bs

-- the number of a mask
unfoldable pub mask_of : List ℕ → ℕ
mask_of [] = 0
mask_of (n ∷ bs) = number bs

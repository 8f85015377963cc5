-- The base64 alphabet: RFC 4648, section 4, table 1.
-- Assumes nothing.
use Rattle.std.specs.Prelude.{Bool, true, false, List, [], ◌∷◌, ◌++◌, ℕ, zero, suc, eqb, get_or}

-- n numbers, counted up from c
unfoldable pub counted : ℕ → ℕ → List ℕ
counted c zero = []
counted c (suc n) = c ∷ counted (suc c) n

-- A to Z, a to z, 0 to 9, + and /
unfoldable pub alphabet : List ℕ
alphabet = counted 65 26 ++ counted 97 26 ++ counted 48 10 ++ 43 ∷ 47 ∷ []

-- the character of a six-bit value
unfoldable pub character : ℕ → ℕ
character v = get_or alphabet v 0

-- the character =, which fills a last group up
abbrev pub pad : ℕ
pad = 61

abbrev pub pick_place : Bool → ℕ → ℕ
pick_place true n = 0
pick_place false n = suc n

-- the place of c in a list, which is the list's length where c is not in it
unfoldable pub place_in : List ℕ → ℕ → ℕ
place_in [] c = 0
place_in (x ∷ xs) c = pick_place (eqb x c) (place_in xs c)

-- the six-bit value of a character, and 64 for every other byte
unfoldable pub six_bits : ℕ → ℕ
six_bits c = place_in alphabet c

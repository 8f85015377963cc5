-- The text of a byte run: RFC 4648, section 4.
-- Assumes nothing.
use Rattle.std.specs.Prelude.{List, [], ◌∷◌, ℕ, ◌+◌, ◌*◌, ◌/◌, ◌%◌}
use Rattle.base_64.specs.Alphabet.{character, pad}

-- three bytes in a row as 24 bits
abbrev pub group : ℕ → ℕ → ℕ → ℕ
group a b c = a * 65536 + b * 256 + c

-- the characters of the four six-bit parts of 24 bits
abbrev pub first : ℕ → ℕ
first n = character (n / 262144 % 64)

abbrev pub second : ℕ → ℕ
second n = character (n / 4096 % 64)

abbrev pub third : ℕ → ℕ
third n = character (n / 64 % 64)

abbrev pub fourth : ℕ → ℕ
fourth n = character (n % 64)

-- a last group of fewer than three bytes has zero bits added on its right, and = for each character that holds none of its bits
unfoldable pub encoded : List ℕ → List ℕ
encoded [] = []
encoded (a ∷ []) = first (group a 0 0) ∷ second (group a 0 0) ∷ pad ∷ pad ∷ []
encoded (a ∷ b ∷ []) = first (group a b 0) ∷ second (group a b 0) ∷ third (group a b 0) ∷ pad ∷ []
encoded (a ∷ b ∷ c ∷ rest) =
    first (group a b c) ∷ second (group a b c) ∷ third (group a b c) ∷ fourth (group a b c) ∷ encoded rest

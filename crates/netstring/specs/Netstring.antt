-- Netstrings: the length in decimal, a colon, the bytes, and a comma.
-- Assumes nothing.
use Rattle.std.specs.Prelude.{List, [], ◌∷◌, ◌++◌, ℕ, length}
use Rattle.cells.specs.Decimal.{decimal}

abbrev pub colon : ℕ
colon = 58

abbrev pub comma : ℕ
comma = 44

unfoldable pub netstring : List ℕ → List ℕ
netstring bs = decimal (length bs) ++ (colon ∷ bs ++ (comma ∷ []))

-- several in a row
unfoldable pub netstrings : List (List ℕ) → List ℕ
netstrings [] = []
netstrings (bs ∷ rest) = netstring bs ++ netstrings rest

-- What stands before a netstring's contents.
-- Assumes nothing.
use Rattle.std.specs.Prelude.{List, [], ◌∷◌, ◌++◌, ℕ}
use Rattle.cells.specs.Decimal.{decimal}
use Rattle.netstring.specs.Netstring.{colon}

-- the length of the contents in decimal, and a colon
unfoldable pub opening : ℕ → List ℕ
opening size = decimal size ++ (colon ∷ [])

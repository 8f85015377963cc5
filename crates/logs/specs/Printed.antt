-- What is printed of the counts: document 02, K5.
-- Assumes nothing.
use Rattle.std.specs.Prelude.{ℕ, zero, suc, List, [], ◌∷◌, ◌++◌, cond, eqb, get_or}
use Rattle.cells.specs.Decimal.{decimal}
use Rattle.cells.specs.Text.{codes}
use Rattle.logs.specs.Counts.{LF, sum}

-- a name, a space and a number, on a line
unfoldable pub row : List ℕ → ℕ → List ℕ
row name n = name ++ 32 ∷ decimal n ++ LF ∷ []

-- the row of a status, if lines go under it
unfoldable pub status_row : ℕ → ℕ → List ℕ
status_row s n = cond (eqb n 0) [] (row (decimal s) n)

-- the rows of n statuses from s on
unfoldable pub rows : List ℕ → ℕ → ℕ → List ℕ
rows counts s zero = []
rows counts s (suc n) = status_row s (get_or counts s 0) ++ rows counts (suc s) n

-- header, statuses rising, unread and total
unfoldable pub printed : List ℕ → List ℕ
printed counts =
    codes "status lines" ++ LF ∷ rows counts 100 500
    ++ row (codes "unread") (get_or counts 0 0)
    ++ row (codes "total") (sum counts)

-- Looking an IV up through an index: document 02, K7.
-- Assumes nothing.
use Rattle.std.specs.Prelude.{ℕ, zero, suc, List, [], ◌∷◌, cond, length, get_or, take, drop, Option, Some, None}
use Rattle.cells.specs.Numbers.{number}
use Rattle.table.specs.declared.session.Record.{Record}
use Rattle.table.specs.Record.{freed}
use Rattle.table.specs.Table.{holds}

-- the numbers that the first n entries hold, two bytes each
abbrev pub entries : ℕ → List ℕ → List ℕ
entries zero index = []
entries (suc n) index = number (take 2 index) ∷ entries n (drop 2 index)

-- the place that the first of some entries names whose record is used and has the IV
abbrev pub named : List Record → List ℕ → List ℕ → Option ℕ
named table iv [] = None
named table iv (e ∷ es) = cond (holds iv (get_or table e freed)) (Some e) (named table iv es)

abbrev pub through : List Record → List ℕ → List ℕ → Option ℕ
through table index iv = named table iv (entries (length table) index)

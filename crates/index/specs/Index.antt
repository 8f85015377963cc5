-- The index beside a session table: document 02, K7. The places of the used records by rising IV, two bytes each, highest byte first; then FF FF
-- for each record that is left.
-- Assumes nothing.
use Rattle.std.specs.Prelude.{ℕ, zero, suc, ◌-◌, ◌≤◌, ◌≡◌, List, [], ◌∷◌, ◌++◌, Bool, true, false, cond, ◌&&◌, ◌||◌, length, get_or, replicate, eqb, ltb}
use Rattle.cells.specs.Numbers.{bytes_of}
use Rattle.table.specs.declared.session.Record.{Record}
use Rattle.table.specs.Record.{freed}
use Rattle.table.specs.Table.{places, records, is_used}
use Rattle.table.specs.WellFormed.{well_formed}

-- bytes compared from the first
unfoldable pub precedes : List ℕ → List ℕ → Bool
precedes [] [] = false
precedes [] (y ∷ ys) = true
precedes (x ∷ xs) [] = false
precedes (x ∷ xs) (y ∷ ys) = ltb x y || (eqb x y && precedes xs ys)

-- the IV at one place is lower than that at another
abbrev pub lower : List Record → ℕ → ℕ → Bool
lower table p q = precedes (get_or table p freed).iv (get_or table q freed).iv

-- a place put before the first of some places whose IV is not lower
unfoldable pub among : List Record → ℕ → List ℕ → List ℕ
among table place [] = place ∷ []
among table place (p ∷ ps) = cond (lower table p place) (p ∷ among table place ps) (place ∷ p ∷ ps)

-- of the first n places those of used records, by rising IV
unfoldable pub ranked_to : List Record → ℕ → List ℕ
ranked_to table zero = []
ranked_to table (suc n) = cond (is_used (get_or table n freed)) (among table n (ranked_to table n)) (ranked_to table n)

abbrev pub ranked : List Record → List ℕ
ranked table = ranked_to table (length table)

-- an entry that names no record
abbrev pub vacant : ℕ
vacant = 65535

-- some places, and n entries in all
abbrev pub filled : ℕ → List ℕ → List ℕ
filled n ps = ps ++ replicate (n - length ps) vacant

unfoldable pub coded : List ℕ → List ℕ
coded [] = []
coded (e ∷ es) = bytes_of 2 e ++ coded es

-- the index that fits a table
unfoldable pub index_of : List Record → List ℕ
index_of table = coded (filled (length table) (ranked table))

-- a well-formed table beside the index that fits it; two bytes name each place
pub record Indexed (table index : List ℕ) : Type 0 where
  pub few : places table ≤ vacant
  pub formed : well_formed (records table) ≡ true
  pub fits : index ≡ index_of (records table)

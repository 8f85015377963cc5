-- When an index fits a table, in document 02's words.
-- Assumes nothing.
use Rattle.std.specs.Prelude.{ℕ, ◌<◌, ◌≡◌, List, true, length, get_or}
use Rattle.table.specs.declared.session.Record.{Record}
use Rattle.table.specs.Record.{freed}
use Rattle.index.specs.Index.{lower, filled, coded}

-- a used record stands at a place
abbrev pub UsedAt : List Record → ℕ → Type 0
UsedAt table p = (p < length table) × ((get_or table p freed).used ≡ 1)

-- a place stands in a list of places
pub record Stands (p : ℕ) (ps : List ℕ) : Type 0 where
  pub at : ℕ
  pub within : at < length ps
  pub is : get_or ps at 0 ≡ p

pub record Fits (table : List Record) (index : List ℕ) : Type 0 where
  -- the entries before the vacant ones
  pub ps : List ℕ
  -- are the places of the used records, and of no others
  pub used : (p : ℕ) → Stands p ps → UsedAt table p
  pub all : (p : ℕ) → UsedAt table p → Stands p ps
  -- by rising IV
  pub rising : (i j : ℕ) → i < j → j < length ps → lower table (get_or ps i 0) (get_or ps j 0) ≡ true
  -- each two bytes long, then FF FF for the rest
  pub bytes : index ≡ coded (filled (length table) ps)

-- The session that an IV names in a table, and how a call leaves its record: document 01, 'Orders, records and sizes'.
-- Assumes nothing.
use Rattle.std.specs.Prelude.{List, ℕ, ◌*◌, Option, Some, None}
use Rattle.cells.specs.Runs.{spliced}
use Rattle.table.specs.declared.session.Record.{Record}
use Rattle.table.specs.Record.{size, record_bytes, freed}
use Rattle.table.specs.Table.{records, record_at, found}

-- the used record with an IV: its place, and what it holds (a free record where there is none)
abbrev pub place_of : List ℕ → List ℕ → Option ℕ
place_of table iv = found (records table) iv

abbrev pub held_at : List ℕ → Option ℕ → Record
held_at table (Some place) = record_at table place
held_at table None = freed

-- the table with another record at a place
abbrev pub with_record : List ℕ → Option ℕ → Record → List ℕ
with_record table (Some place) r = spliced table (size * place) (record_bytes r)
with_record table None r = table

-- the session's record freed, if there is one
unfoldable pub without : List ℕ → List ℕ → List ℕ
without table iv = with_record table (place_of table iv) freed

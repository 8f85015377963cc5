-- The session table as the list of its records, and the places that a call looks for: document 01, "Orders, records and sizes" and
-- "The numbers a call returns".
-- Assumes nothing.
use Rattle.std.specs.Prelude.{ℕ, zero, suc, ◌*◌, ◌/◌, ◌<◌, ◌≡◌, List, [], ◌∷◌, Bool, cond, ◌&&◌, length, take, drop, leb, eqb, Option, Some, None}
use Rattle.cells.specs.Runs.{part, same}
use Rattle.table.specs.declared.session.Record.{Record}
use Rattle.table.specs.Record.{size, record_of}

-- how many records a table's bytes are
abbrev pub places : List ℕ → ℕ
places bytes = length bytes / size

-- the record at a place of a table's bytes
abbrev pub record_at : List ℕ → ℕ → Record
record_at bytes place = record_of (part bytes (size * place) size)

abbrev pub chunks : ℕ → List ℕ → List Record
chunks zero bytes = []
chunks (suc n) bytes = record_of (take size bytes) ∷ chunks n (drop size bytes)

-- the records of a table's bytes, lowest place first
unfoldable pub records : List ℕ → List Record
records bytes = chunks (places bytes) bytes

abbrev pub or_else : Option ℕ → Option ℕ → Option ℕ
or_else (Some place) other = Some place
or_else None other = other

-- the lowest place at which a test holds, where the list's places are counted from `place` on
abbrev pub first_from : (Record → Bool) → ℕ → List Record → Option ℕ
first_from test place [] = None
first_from test place (r ∷ rs) = cond (test r) (Some place) (first_from test (suc place) rs)

abbrev pub is_used : Record → Bool
is_used r = eqb r.used 1

abbrev pub is_free : Record → Bool
is_free r = eqb r.used 0

-- a used record with this IV
abbrev pub holds : List ℕ → Record → Bool
holds iv r = is_used r && same r.iv iv

-- its expiry is at or before now
abbrev pub lapsed : ℕ → Record → Bool
lapsed clock r = leb r.expiry.0 clock

-- the used record with an IV
unfoldable pub found : List Record → List ℕ → Option ℕ
found table iv = first_from (holds iv) 0 table

-- the record that a setup takes: the lowest free one, else the lowest whose expiry is at or before now
unfoldable pub taken : List Record → ℕ → Option ℕ
taken table clock = or_else (first_from is_free 0 table) (first_from (lapsed clock) 0 table)

-- a place within n
abbrev pub Within : ℕ → Option ℕ → Type 0
Within n (Some place) = place < n
Within n None = Unit

-- an answer that is the expected place, within n
pub record Placed (expected : Option ℕ) (n : ℕ) (answer : Option ℕ) : Type 0 where
  pub is : answer ≡ expected
  pub within : Within n answer

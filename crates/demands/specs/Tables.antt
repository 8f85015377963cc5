-- What a call does to a table, in demand 1's words: one record is replaced, and everything else stays.
-- Assumes nothing.
use Rattle.std.specs.Prelude.{◌≡◌, List, ◌⊎◌, ℕ, ◌+◌, ◌*◌, ◌≤◌, ◌<◌, length, get_or}
use Rattle.table.specs.declared.session.Record.{Record}
use Rattle.table.specs.Record.{size}
use Rattle.table.specs.Table.{places, record_at}

-- the byte is none of the record's at a place
abbrev pub Outside : ℕ → ℕ → Type 0
Outside place i = (i < size * place) ⊎ (size * place + size ≤ i)

-- the table after is the one before with this record at a place
pub record Replaced (before after : List ℕ) (place : ℕ) (r : Record) : Type 0 where
  pub within : place < places before
  pub here : record_at after place ≡ r
  pub others : (j : ℕ) → j < places before → (j ≡ place → ⊥) → record_at after j ≡ record_at before j
  pub bytes : (i : ℕ) → Outside place i → get_or after i 0 ≡ get_or before i 0
  pub as_long : length after ≡ length before

-- a used record with the IV stands at a place of the table
pub record SessionAt (table vector : List ℕ) (place : ℕ) : Type 0 where
  pub within : place < places table
  pub used : (record_at table place).used ≡ 1
  pub iv : (record_at table place).iv ≡ vector

pub record Session (table vector : List ℕ) : Type 0 where
  pub place : ℕ
  pub is : SessionAt table vector place

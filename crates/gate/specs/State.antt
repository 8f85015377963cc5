-- What calls leave: document 01, 'The numbers a call returns', and document 02, K7, for the index.
-- Assumes nothing.
use Rattle.std.specs.Prelude.{List, ℕ, ◌/◌, ◌%◌, length}
use Rattle.cells.specs.Runs.{fronted}
use Rattle.table.specs.Table.{records}
use Rattle.index.specs.Index.{index_of}

-- what a host keeps between calls
pub record State : Type 0 where
  pub table : List ℕ
  pub index : List ℕ

abbrev pub holding : List ℕ → List ℕ → State
holding table index = record { table = table; index = index }

-- a table beside the index that fits it
abbrev pub indexed : List ℕ → State
indexed table = holding table (index_of (records table))

-- a call's number, how long the reply is, and what stands in reply buffer and state after it
pub record Outcome : Type 0 where
  pub number : ℕ
  pub length : ℕ
  pub reply : List ℕ
  pub state : State

-- a call answers its number and 256 times the reply's length
abbrev pub outcome : ℕ → List ℕ → State → Outcome
outcome answer reply state = record { number = answer % 256; length = answer / 256; reply = reply; state = state }

-- state and reply buffer keep every byte
abbrev pub untouched : ℕ → List ℕ → State → Outcome
untouched number reply state = record { number = number; length = 0; reply = reply; state = state }

-- the text stands at the front of the reply buffer; bytes after it keep their contents
abbrev pub replied : ℕ → List ℕ → List ℕ → State → Outcome
replied number text reply state = record { number = number; length = length text; reply = fronted text reply; state = state }

-- What the functions answer, by `decoded`.
-- Assumes nothing.
use Rattle.std.specs.Prelude.{Bool, true, false, List, ℕ, Option, Some, None, Result, Ok, Err, leb, length}
use Rattle.cells.specs.Runs.{fronted}
use Rattle.base_64.specs.declared.Undecoded.{Undecoded}
use Rattle.base_64.specs.declared.Undecoded.TheVariants.{Bad, TooLong}
use Rattle.base_64.specs.Decoding.{Decoding, nothing, bytes, decoded}

abbrev pub size_of : Decoding → Option ℕ
size_of nothing = None
size_of (bytes bs) = Some (length bs)

-- how many bytes a text encodes, if it encodes any
unfoldable pub measured : List ℕ → Option ℕ
measured text = size_of (decoded text)

-- an answer with the buffer as it is left
pub record Outcome : Type 0 where
  pub answer : Result ℕ Undecoded
  pub out : List ℕ

abbrev pub outcome : Result ℕ Undecoded → List ℕ → Outcome
outcome answer out = record { answer = answer; out = out }

abbrev pub pick_outcome : Bool → Outcome → Outcome → Outcome
pick_outcome true a b = a
pick_outcome false a b = b

-- the bytes at the front of the buffer, where they fit in; else the buffer as it was
abbrev pub into : Decoding → List ℕ → Outcome
into nothing out = outcome (Err Bad) out
into (bytes bs) out =
    pick_outcome (leb (length bs) (length out))
    (outcome (Ok (length bs)) (fronted bs out))
    (outcome (Err TooLong) out)

unfoldable pub decoded_into : List ℕ → List ℕ → Outcome
decoded_into text out = into (decoded text) out

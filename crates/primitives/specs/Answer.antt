-- The answer of a call: its number, and what stands in the buffer that it was lent.
-- Assumes nothing.
use Rattle.std.specs.Prelude.{Bool, true, false, List, ℕ, Result, Ok, Err}
use Rattle.primitives.specs.declared.Undone.{Undone}
use Rattle.primitives.specs.declared.Undone.TheVariants.{Size, Tag}

pub record Answer : Type 0 where
  pub number : ℕ
  pub out : List ℕ

abbrev pub answer : ℕ → List ℕ → Answer
answer n out = record { number = n; out = out }

-- done, with what is to stand in the buffer, where the sizes fit; otherwise 1 and the buffer as it was
abbrev pub where_fits : Bool → List ℕ → List ℕ → Answer
where_fits true filled out = answer 0 filled
where_fits false filled out = answer 1 out

-- done, a size that does not fit, and a wrong tag
abbrev pub number_of : Result (Unit {0}) Undone → ℕ
number_of (Ok done) = 0
number_of (Err Size) = 1
number_of (Err Tag) = 2

-- The number of each refusal: docs/CARRIER.md, 'Numbers'.
-- Assumes nothing.
use Rattle.std.specs.Prelude.{ℕ, Result, Ok, Err}
use Rattle.carrier.specs.declared.refusal.Refusal.{Refusal}
use Rattle.carrier.specs.declared.refusal.Refusal.TheVariants.{BadSize, Malformed, BadLabel, ListedTwice, MissingField, BadSignature}

abbrev pub number_of : Refusal → ℕ
number_of BadSize = 1
number_of Malformed = 2
number_of BadLabel = 3
number_of ListedTwice = 4
number_of MissingField = 5
number_of BadSignature = 6

-- the number of an answer: 0, or that of its refusal
abbrev pub number_in : {A : Type 0} → Result A Refusal → ℕ
number_in (Ok a) = 0
number_in (Err refusal) = number_of refusal

-- The number of each refusal: docs/SCANNER.md, 'Numbers'.
-- Assumes nothing.
use Rattle.std.specs.Prelude.{ℕ, ◌*◌, Result, Ok, Err}
use Rattle.scanner.specs.declared.refusal.Refusal.{Refusal}
use Rattle.scanner.specs.declared.refusal.Refusal.TheVariants.{NoSession, NoNonce, BadPart, NotOurs}

abbrev pub number_of : Refusal → ℕ
number_of NoSession = 1
number_of NoNonce = 2
number_of BadPart = 3
number_of NotOurs = 4

-- the number of an answer: 0, or that of its refusal
abbrev pub number_in : {A : Type 0} → Result A Refusal → ℕ
number_in (Ok a) = 0
number_in (Err refusal) = number_of refusal

-- with 256 times the length that it brings
abbrev pub answer_in : Result ℕ Refusal → ℕ
answer_in (Ok size) = 256 * size
answer_in (Err refusal) = number_of refusal

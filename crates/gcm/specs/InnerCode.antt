-- Names for what the code answers.
-- Assumes nothing.
use Rattle.std.specs.Prelude.{List, ℕ, Result, Ok, Err}
use Rattle.std.proofs.Math.Option.{Option, none, some}
use Rattle.gcm.specs.declared.WrongTag.{WrongTag}

-- the answer for what opening gives, and the buffer after it, which was old
abbrev pub answer : Option (List ℕ) → Result Unit WrongTag
answer none = Err (record {})
answer (some text) = Ok tt

abbrev pub left : Option (List ℕ) → List ℕ → List ℕ
left none old = old
left (some text) old = text

-- What is laid, and then the bytes from the index on, is the text.
-- Assumes nothing.
use Rattle.std.proofs.Common.{drop}
use Rattle.structured.specs.Texts.{escaped}
use Rattle.structured.proofs.Laying.{Laying}
use Rattle.structured.proofs.put_escaped.Given as goal

abbrev pub invariant-loop-b : goal.invariant-loop-b
invariant-loop-b l = Laying l.fn.out l.out l.fn.at l.end (escaped l.text) (escaped (drop l.b-index l.text))

-- What is laid, and then what the bytes from the index on tell, is the text.
-- Assumes nothing.
use Rattle.std.proofs.Common.{drop}
use Rattle.structured.specs.Reading.{unlisted}
use Rattle.structured.proofs.Laying.{Laying}
use Rattle.structured.proofs.reading.unlist.Given as goal

abbrev pub invariant-loop-b : goal.invariant-loop-b
invariant-loop-b l = Laying l.fn.out l.out 0 l.end (unlisted l.text) (unlisted (drop l.b-index l.text))

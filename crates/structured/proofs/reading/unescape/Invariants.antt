-- What is laid, and then what the bytes from the index on tell, is the text.
-- Assumes nothing.
use Rattle.std.proofs.Common.{drop}
use Rattle.structured.specs.Reading.{unescaped_after, unescaped}
use Rattle.structured.proofs.Laying.{Laying}
use Rattle.structured.proofs.reading.unescape.Given as goal

abbrev pub invariant-loop-b : goal.invariant-loop-b
invariant-loop-b l = Laying l.fn.out l.out 0 l.end (unescaped l.text) (unescaped_after l.after (drop l.b-index l.text))

-- The closure tests for another byte than b.
-- Assumes nothing.
use Rattle.std.proofs.Common.{rules}
use Rattle.structured.specs.Reading.{other}
use Rattle.structured.proofs.reading.end_before.Goals as goal

pub returns : goal.returns
returns c = c.end.ensures (other c.args.b) (λ b r h e. search rules)

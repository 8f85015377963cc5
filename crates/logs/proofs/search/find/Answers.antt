-- The closure tells what `other` tells.
-- Assumes nothing.
use Rattle.std.proofs.Common.{rules}
use Rattle.logs.specs.Line.{other}
use Rattle.logs.proofs.search.find.Goals as goal

pub returns : goal.returns
unfolding other
returns c = c.end_by_sixteens.ensures (other c.args.b) (λ b r h post. search rules)

-- Assumes nothing.
use Rattle.std.proofs.Common.{refl}
use Rattle.logs.specs.Counts.{times, each, counts, sum}
use Rattle.logs.proofs.States.{holds_none}
use Rattle.logs.proofs.state.State.new.Goals as goal

pub returns : goal.returns
unfolding times each counts sum
returns c = (refl, holds_none _ refl refl)

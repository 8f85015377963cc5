-- Assumes nothing.
use Rattle.std.proofs.Common.{arith}
use Rattle.gcm.specs.Gctr.{inc32}
use Rattle.gcm.proofs.next.Goals as goal

pub returns : goal.returns
unfolding inc32
returns c = omega arith

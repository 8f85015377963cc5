-- Assumes nothing.
use Rattle.std.proofs.Common.{◌/◌, ap}
use Rattle.std.specs.Int.Bits.{bit_xor}
use Rattle.gcm.specs.Multiply.{halved, reduction}
use Rattle.gcm.proofs.halved.Goals as goal

pub returns : goal.returns
unfolding halved reduction
returns c = ap (bit_xor (c.args.v / 2)) c.chosen.ensures

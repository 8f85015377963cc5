-- One test of the seven constants.
-- Assumes nothing.
use Rattle.std.proofs.Common.{◌-◌, arith}
use Rattle.aes.proofs.Schedule.{constant}
use Rattle.aes.proofs.round_constant.Goals as goal

pub returns : goal.returns
returns c = constant (c.args.j - 1) (omega arith)

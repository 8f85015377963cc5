-- Assumes nothing.
use Rattle.std.proofs.Common.{refl}
use Rattle.aes.specs.Field.{xtimes}
use Rattle.aes.proofs.double.Goals as goal

pub returns : goal.returns
unfolding xtimes
returns c = refl

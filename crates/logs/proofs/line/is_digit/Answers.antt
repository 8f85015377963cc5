-- Assumes nothing.
use Rattle.std.proofs.Common.{refl}
use Rattle.logs.specs.Line.{digit}
use Rattle.logs.proofs.line.is_digit.Goals as goal

pub returns : goal.returns
unfolding digit
returns c = refl

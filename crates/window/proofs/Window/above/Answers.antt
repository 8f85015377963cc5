use Rattle.std.proofs.Common.{rules}
use Rattle.window.specs.Window.{moved}
use Rattle.window.proofs.Window.above.Goals as goal

pub returns : goal.returns
unfolding moved
returns c = search rules

use Rattle.std.proofs.Common.{rules}
use Rattle.names.specs.InnerWalk.{no_comma}
use Rattle.names.proofs.name_end.Goals as goal

pub returns : goal.returns
returns c = c.end.ensures no_comma (λ b r l e. search rules)

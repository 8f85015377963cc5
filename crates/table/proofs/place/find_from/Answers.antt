use Rattle.std.proofs.Common.{rules}
use Rattle.table.specs.Table.{holds}
use Rattle.table.proofs.place.find_from.Goals as goal

pub returns : goal.returns
returns c = c.first.ensures (holds c.args.iv.now) (λ place r h e. search rules)

use Rattle.std.proofs.Common.{rules}
use Rattle.table.specs.Table.{lapsed}
use Rattle.table.proofs.place.first_lapsed.Goals as goal

pub returns : goal.returns
returns c = c.first.ensures (lapsed c.args.clock.0) (λ place r h e. search rules)

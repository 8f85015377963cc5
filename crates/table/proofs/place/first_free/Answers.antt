use Rattle.std.proofs.Common.{rules}
use Rattle.table.specs.Table.{is_free}
use Rattle.table.proofs.place.first_free.Goals as goal

pub returns : goal.returns
returns c = c.first.ensures is_free (λ place r h e. search rules)

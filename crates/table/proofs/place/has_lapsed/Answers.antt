use Rattle.std.proofs.Common.{rules}
use Rattle.table.proofs.Records.{expiry_at}
use Rattle.table.proofs.place.has_lapsed.Goals as goal

pub returns : goal.returns
returns c = rw (expiry_at c.args.table.now c.args.place c.requires) (search rules)

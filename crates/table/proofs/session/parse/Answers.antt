use Rattle.std.proofs.Common.{rules}
use Rattle.table.specs.Record.{record_of}
use Rattle.table.proofs.session.parse.Goals as goal

pub returns : goal.returns
unfolding record_of
returns c = search rules

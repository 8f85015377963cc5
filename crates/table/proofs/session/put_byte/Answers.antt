use Rattle.std.proofs.Common.{[], ◌∷◌, arith}
use Rattle.cells.proofs.Runs.{stored}
use Rattle.table.proofs.session.put_byte.Goals as goal

pub returns : goal.returns
returns c = stored c.args.out.now (c.args.x ∷ []) c.args.at (omega arith)

-- A byte more in each turn, and at the end the whole run.
-- Assumes nothing.
use Rattle.std.proofs.Common.{◌∙◌, arith}
use Rattle.cells.proofs.Runs.{copied_more, copied_all}
use Rattle.cells.proofs.put_front.Goals as goal

pub loop-i-preserved : goal.loop-i-preserved
loop-i-preserved c = copied_more c.args.out.now c.args.src.now c.loop-i.i c.loop-i.invariant (omega arith) (omega arith)

pub returns : goal.returns
returns c = c.loop-i.invariant ∙ copied_all c.args.out.now c.args.src.now c.loop-i.i (omega arith)

-- Assumes nothing.
use Rattle.std.proofs.Common.{rules}
use Rattle.logs.proofs.Statuses.{ending_short, ending_none, ending_told}
use Rattle.logs.proofs.line.ending.Goals as goal

pub returns-then-line-at-lt5 : goal.returns-then-line-at-lt5
returns-then-line-at-lt5 c = ending_short c.args.line.now c.args.at c.if-line-at-lt5.true

pub returns-then-line-at : goal.returns-then-line-at
returns-then-line-at c =
    ending_told c.args.line.now c.args.at (search rules) c.size.result c.size.ensures c.three.result c.if-line-at.true c.three.ensures

pub returns-else-line-at : goal.returns-else-line-at
returns-else-line-at c = ending_none c.args.line.now c.args.at (search rules) c.size.result c.size.ensures c.if-line-at.false

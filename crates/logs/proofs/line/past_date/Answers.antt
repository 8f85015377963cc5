-- Assumes nothing.
use Rattle.std.proofs.Common.{arith}
use Rattle.logs.proofs.Parts.{date_past, date_none}
use Rattle.logs.proofs.line.past_date.Goals as goal

pub returns-then-end-line : goal.returns-then-end-line
returns-then-end-line c = date_none _ _ _ c.find-end.ensures c.if-end-line.true

pub returns : goal.returns
returns c =
    date_past c.args.line.now c.args.at c.find-end.result c.past_space.result c.find-end.ensures (omega (arith, c.find-end.ensures.within)) c.past_space.ensures

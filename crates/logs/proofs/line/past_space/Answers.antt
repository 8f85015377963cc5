-- Assumes nothing.
use Rattle.std.proofs.Common.{rules}
use Rattle.logs.proofs.Parts.{space_none, space_there, space_missing}
use Rattle.logs.proofs.line.past_space.Goals as goal

pub returns-then-end-line : goal.returns-then-end-line
returns-then-end-line c = space_none c.args.line.now c.args.good c.args.end c.if-end-line.true

pub returns-then-good-line : goal.returns-then-good-line
returns-then-good-line c = space_there c.args.line.now c.args.good c.args.end (search rules) c.if-good-line.true

pub returns-else-good-line : goal.returns-else-good-line
returns-else-good-line c = space_missing c.args.line.now c.args.good c.args.end (search rules) c.if-good-line.false

-- A byte that is escaped has a \ before it.
-- Assumes nothing.
use Rattle.std.proofs.Common.{length, ap, arith}
use Rattle.structured.proofs.Texts.{escaped_marked, escaped_kept}
use Rattle.structured.proofs.put_byte.Goals as goal

pub put_at-requires : goal.put_at-requires
put_at-requires c = omega (arith, ap length (escaped_marked c.args.b c.if-b.true))

pub returns-then-b : goal.returns-then-b
returns-then-b c = rw (escaped_marked c.args.b c.if-b.true) c.put_at.ensures

pub put_at-requires-2 : goal.put_at-requires-2
put_at-requires-2 c = omega (arith, ap length (escaped_kept c.args.b c.if-b.false))

pub returns : goal.returns
returns c = rw (escaped_kept c.args.b c.if-b.false) c.put_at-2.ensures

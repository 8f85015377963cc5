-- A string is its text between two quotes.
-- Assumes nothing.
use Rattle.std.proofs.Common.{arith}
use Rattle.structured.specs.Texts.{string}
use Rattle.structured.proofs.Texts.{string_length}
use Rattle.structured.proofs.Laying.{laid_between}
use Rattle.structured.proofs.put_string.Goals as goal

pub put_at-start-requires : goal.put_at-start-requires
put_at-start-requires c = omega (arith, string_length c.args.text.now)

pub put_escaped-end-requires : goal.put_escaped-end-requires
put_escaped-end-requires c = omega (arith, c.put_at-start.ensures.ends, string_length c.args.text.now)

pub put_at-requires : goal.put_at-requires
put_at-requires c = omega (arith, string_length c.args.text.now, c.put_escaped-end.ensures.ends, c.put_at-start.ensures.ends)

pub returns : goal.returns
unfolding string
returns c = laid_between c.put_at-start.ensures c.put_escaped-end.ensures c.put_at.ensures (omega (arith, string_length c.args.text.now))

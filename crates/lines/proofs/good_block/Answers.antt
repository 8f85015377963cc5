use Rattle.std.proofs.Common.{sym, ◌∙◌}
use Rattle.lines.proofs.Named.{good_at, good_there}
use Rattle.lines.proofs.good_block.Goals as goal

pub loop-line-preserved : goal.loop-line-preserved
loop-line-preserved c = let whole = c.in-Some.ensures in (whole.within, c.loop-line.invariant.1 ∙ good_at _ _ _ _ whole)

pub returns : goal.returns
returns c = sym (c.loop-line.invariant.1 ∙ good_there _ _ c.loop-line.invariant.0 c.in_default.ensures)

-- Runs of other lengths differ; a turn gathers the difference of two bytes.
use Rattle.std.proofs.Common.{rules, sym, ap, ◌∙◌, length}
use Rattle.cells.proofs.Equality.{same_not, compared_more, compared_all}
use Rattle.cells.proofs.same.Goals as goal

pub returns-then-a-b : goal.returns-then-a-b
returns-then-a-b c = sym (same_not _ _ (λ e. c.if-a-b.true (ap length e)))

pub loop-i-preserved : goal.loop-i-preserved
loop-i-preserved c = compared_more _ _ c.loop-i.i c.loop-i.differences (search rules) (search rules) c.loop-i.invariant

pub returns : goal.returns
returns c = sym (c.loop-i.invariant ∙ compared_all _ _ c.loop-i.i _ (search rules) (search rules))

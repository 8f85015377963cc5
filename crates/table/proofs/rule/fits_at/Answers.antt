use Rattle.std.proofs.Common.{rules}
use Rattle.table.specs.WellFormed.{fitting}
use Rattle.table.proofs.rule.fits_at.Goals as goal

pub returns-then-here-ne1 : goal.returns-then-here-ne1
unfolding fitting
returns-then-here-ne1 c = search rules

pub returns : goal.returns
unfolding fitting
returns c = search rules

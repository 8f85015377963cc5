use borrow.Author.Tests.{ne_eqb}
use Rattle.table.proofs.Fitting.{lowest}
use Rattle.table.proofs.rule.window_sound.Goals as goal

pub returns : goal.returns
returns c = simp (ne_eqb _ _ c.if-session-eq0.false, lowest)

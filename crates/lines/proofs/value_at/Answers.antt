use Rattle.lines.proofs.Lines.{lines_stop, good_parts}
use Rattle.lines.proofs.Named.{lines_at}
use Rattle.lines.proofs.Trims.{trimmed_white}
use Rattle.lines.proofs.value_at.Goals as goal

pub returns-in-Some : goal.returns-in-Some
returns-in-Some c =
    let whole = c.in-Some.ensures in
    simp (lines_at _ _ _ _ whole, trimmed_white _ _ (good_parts _ whole.good).2 c.trim_ascii.ensures.value)

pub returns-in-None : goal.returns-in-None
returns-in-None c = simp (lines_stop _ c.in-None.ensures)

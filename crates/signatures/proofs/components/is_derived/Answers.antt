-- The three derived components.
-- Assumes nothing.
use Rattle.cells.specs.Text.{codes}
use Rattle.signatures.specs.Components.{is_derived}
use Rattle.signatures.proofs.components.is_derived.Goals as goal

pub returns : goal.returns
unfolding is_derived codes
returns c = simp (c.same.ensures, c.same-2.ensures, c.same-3.ensures)

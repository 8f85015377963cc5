-- Answers for `remake`.
-- Assumes nothing.
use Rattle.std.proofs.Common.{sym, ap, ◌∙◌, arith}
use Rattle.gate.specs.Remake.{remake_checks, remade}
use Rattle.gate.proofs.Numbers.{stated}
use Rattle.gate.proofs.upkeep.remake.Goals as goal

pub returns-then-not-state_fits : goal.returns-then-not-state_fits
unfolding remade remake_checks
returns-then-not-state_fits c = simp (sym c.state_fits.ensures ∙ c.if-not-state_fits.true)

pub returns-then-not-well_formed : goal.returns-then-not-well_formed
unfolding remade remake_checks
returns-then-not-well_formed c = simp (sym c.state_fits.ensures ∙ c.if-not-state_fits.false, sym c.well_formed-2.ensures ∙ c.if-not-well_formed.true)

pub make-requires : goal.make-requires
make-requires c =
    let size = stated _ (sym c.state_fits.ensures ∙ c.if-not-state_fits.false) in
    (omega (arith, size.few), size.long, sym c.well_formed-2.ensures ∙ c.if-not-well_formed.false)

pub returns : goal.returns
unfolding remade remake_checks
returns c = simp (sym c.state_fits.ensures ∙ c.if-not-state_fits.false, sym c.well_formed-2.ensures ∙ c.if-not-well_formed.false, c.make.ensures)

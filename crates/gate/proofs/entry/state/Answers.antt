-- Answers for `entry::state`.
-- Assumes nothing.
use Rattle.std.proofs.Common.{sym, ◌∙◌, arith}
use Rattle.gate.proofs.Numbers.{stated, state_good, state_unindexed, state_unformed}
use Rattle.gate.proofs.entry.state.Goals as goal

pub fits-requires : goal.fits-requires
fits-requires c = let size = stated _ c.requires in (omega (arith, size.few), size.long)

pub returns-then-fits : goal.returns-then-fits
returns-then-fits c = sym (state_good _ (sym c.fits.ensures ∙ c.if-fits.true))

pub returns-then-well_formed : goal.returns-then-well_formed
returns-then-well_formed c =
    sym (state_unindexed _ (sym c.well_formed-2.ensures ∙ c.if-well_formed.true) (sym c.fits.ensures ∙ c.if-fits.false))

pub returns : goal.returns
returns c = sym (state_unformed _ (sym c.well_formed-2.ensures ∙ c.if-well_formed.false))

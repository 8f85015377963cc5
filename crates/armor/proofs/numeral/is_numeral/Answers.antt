-- `is_numeral` meets its contract.
-- Assumes nothing.
use Rattle.armor.specs.Numerals.{is_numeral}
use Rattle.armor.proofs.numeral.is_numeral.Goals as goal

pub returns : goal.returns
unfolding is_numeral
returns c = simp c.is_plain.ensures

-- `number_of` meets its contract: zero bytes before a number make no difference.
-- Assumes nothing.
use Rattle.std.proofs.Common.{◌-◌, ◌∙◌, length, arith}
use Rattle.armor.proofs.Numerals.{number_eight}
use Rattle.armor.proofs.numeral.number_of.Goals as goal

pub returns : goal.returns
returns c = c.load64.ensures ∙ number_eight c.args.bytes.now (8 - length c.args.bytes.now) (omega (arith, c.requires)) c.put_at.ensures.is

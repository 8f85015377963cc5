-- `number32` meets its contract.
-- Assumes nothing.
use Rattle.armor.proofs.Numerals.{number_small}
use Rattle.armor.proofs.numeral.number32.Goals as goal

pub overflow_cast-result : goal.overflow_cast-result
overflow_cast-result c =
    record { fits = rw c.number_of.ensures (number_small c.args.bytes.now (λ k. (c.type_inv.bytes k).fits) c.requires) }

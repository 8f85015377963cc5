-- `vouching::signs` meets its contract.
-- Assumes nothing.
use Rattle.std.proofs.Common.{◌∙◌}
use Rattle.stages.specs.InnerStages.{brought_as}
use Rattle.stages.proofs.Stages.{signed_by_lem}
use Rattle.stages.proofs.vouching.signs.Goals as goal

pub returns : goal.returns
returns c o by clock server_key value reply h lies =
    c.same_code.ensures ∙ rw c.as_slice.ensures
    (signed_by_lem (brought_as o clock server_key value c.args.brought.now reply) _ by _ _ h lies _ _ c.named-hash.ensures _ c.code-code.ensures)

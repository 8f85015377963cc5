-- `vouching::unseal` meets its contract.
-- Assumes nothing.
use Rattle.stages.proofs.Stages.{opens}
use Rattle.stages.proofs.vouching.unseal.Goals as goal

pub returns : goal.returns
returns c o clock value method head aside path body reply lies =
    opens _ _ lies c.unseal.result (rw c.as_slice.ensures at c.unseal.ensures) _ c.ok_or.ensures.value

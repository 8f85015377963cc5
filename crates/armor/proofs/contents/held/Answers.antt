-- `held` meets its contract.
-- Assumes nothing.
use Rattle.std.proofs.Common.{◌∙◌, replicate}
use Rattle.armor.proofs.Texts.{front_taken}
use Rattle.armor.proofs.contents.held.Goals as goal

pub returns : goal.returns
returns g c = c.of.ensures ∙ front_taken _ (replicate g.row.N 0) c.content-n.result c.content-n.ensures.1 c.content-n.ensures.0

-- `whole` meets its contract.
-- Assumes nothing.
use Rattle.std.proofs.Common.{refl}
use Rattle.armor.proofs.Texts.{filled_whole}
use Rattle.armor.proofs.contents.whole.Goals as goal

pub returns : goal.returns
returns g c = filled_whole _ c.content.ensures.1 refl c.requires

-- Each part is tested.
-- Assumes nothing.
use Rattle.signatures.specs.Components.{good_message}
use Rattle.signatures.proofs.components.good_message.Goals as goal

pub returns : goal.returns
unfolding good_message
returns c = simp (c.is_token.ensures, c.all_between.ensures, c.all_small.ensures, c.all_between-2.ensures, c.good_block.ensures)

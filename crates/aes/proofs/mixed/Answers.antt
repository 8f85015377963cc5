-- The products by 2 and by 3 are doublings.
-- Assumes nothing.
use Rattle.aes.specs.Cipher.{mixed}
use Rattle.aes.proofs.Field.{times_two, times_three}
use Rattle.aes.proofs.mixed.Goals as goal

pub returns : goal.returns
unfolding mixed
returns c = simp (times_two, times_three, c.double.ensures, c.double-2.ensures)

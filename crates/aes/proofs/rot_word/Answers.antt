-- Assumes nothing.
use Rattle.std.proofs.Common.{refl}
use Rattle.aes.specs.Cipher.{rot_word}
use Rattle.aes.proofs.rot_word.Goals as goal

pub returns : goal.returns
unfolding rot_word
returns c = refl

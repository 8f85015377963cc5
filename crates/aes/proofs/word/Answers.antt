-- Assumes nothing.
use Rattle.std.proofs.Common.{add-zero}
use Rattle.aes.specs.Cipher.{word_at, scheduled}
use Rattle.aes.proofs.word.Goals as goal

pub returns : goal.returns
unfolding word_at scheduled
returns c = simp add-zero

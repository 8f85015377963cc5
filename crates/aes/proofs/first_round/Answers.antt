-- The first round key is added by columns.
-- Assumes nothing.
use Rattle.aes.specs.Cipher.{add_round_key, scheduled, word_at, xor_word}
use Rattle.aes.proofs.first_round.Goals as goal

pub returns : goal.returns
unfolding add_round_key scheduled word_at xor_word
returns c =
    simp (c.xor_word.ensures, c.xor_word-2.ensures, c.xor_word-3.ensures, c.xor_word-4.ensures, c.word.ensures, c.word-2.ensures, c.word-3.ensures, c.word-4.ensures, c.word-5.ensures, c.word-6.ensures, c.word-7.ensures, c.word-8.ensures)

-- The last round goes by columns.
-- Assumes nothing.
use Rattle.aes.specs.Cipher.{sub_bytes, shift_rows, add_round_key, word_at, xor_word}
use Rattle.aes.specs.InnerCode.{shifted_word}
use Rattle.aes.proofs.last_round.Goals as goal

pub returns : goal.returns
unfolding sub_bytes shift_rows add_round_key word_at xor_word shifted_word
returns c =
    simp (c.last_column.ensures, c.last_column-2.ensures, c.last_column-3.ensures, c.last_column-4.ensures, c.word.ensures, c.word-2.ensures, c.word-3.ensures, c.word-4.ensures)

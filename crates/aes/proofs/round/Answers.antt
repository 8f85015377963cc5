-- A full round goes by columns.
-- Assumes nothing.
use Rattle.std.proofs.Common.{add-zero}
use Rattle.aes.specs.Cipher.{sub_bytes, shift_rows, mix_columns, add_round_key, full_round, word_at, xor_word}
use Rattle.aes.specs.InnerCode.{shifted_word, mix_word}
use Rattle.aes.proofs.round.Goals as goal

pub returns : goal.returns
unfolding sub_bytes shift_rows mix_columns add_round_key full_round word_at xor_word shifted_word mix_word
returns c =
    simp (add-zero, c.full_column.ensures, c.full_column-2.ensures, c.full_column-3.ensures, c.full_column-4.ensures, c.word.ensures, c.word-2.ensures, c.word-3.ensures, c.word-4.ensures)

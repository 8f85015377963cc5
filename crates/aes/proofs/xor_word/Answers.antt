-- Byte after byte.
-- Assumes nothing.
use Rattle.std.proofs.Common.{ℕ, get_or, rules}
use Rattle.std.specs.Int.Bits.{bit_xor}
use Rattle.aes.specs.Cipher.{xor_word}
use Rattle.aes.proofs.Arrays.{made, word_by}
use Rattle.aes.proofs.xor_word.Goals as goal

pub returns : goal.returns
unfolding xor_word
returns c =
    let f = λ (r : ℕ). bit_xor (get_or c.args.v r 0) (get_or c.args.w r 0) in
    word_by f c.from_fn.result c.from_fn.ensures.items.long (made _ f _ (λ r y q call. search rules) c.from_fn.result 4 c.from_fn.ensures.items)

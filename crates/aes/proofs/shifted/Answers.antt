-- Assumes nothing.
use Rattle.std.proofs.Common.{[], ℕ, ◌+◌, ◌%◌, get_or, rules}
use Rattle.aes.specs.Sbox.{sub_byte}
use Rattle.aes.specs.InnerCode.{shifted_word}
use Rattle.aes.proofs.Arrays.{made, word_by}
use Rattle.aes.proofs.shifted.Goals as goal

pub returns : goal.returns
unfolding shifted_word
returns c =
    let f = λ (r : ℕ). sub_byte (get_or (get_or c.args.s.now ((c.args.c + r) % 4) []) r 0) in
    word_by f c.from_fn.result c.from_fn.ensures.items.long (made _ f _ (λ r y q call. search rules) c.from_fn.result 4 c.from_fn.ensures.items)

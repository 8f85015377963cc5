-- Assumes nothing.
use Rattle.std.proofs.Common.{ℕ, ◌+◌, ◌%◌, get_or, rules}
use Rattle.aes.specs.Cipher.{mixed}
use Rattle.aes.specs.InnerCode.{mix_word}
use Rattle.aes.proofs.Arrays.{made, word_by}
use Rattle.aes.proofs.mix_column.Goals as goal

pub returns : goal.returns
unfolding mix_word
returns c =
    let w = c.args.w in
    let f = λ (r : ℕ). mixed (get_or w r 0) (get_or w ((r + 1) % 4) 0) (get_or w ((r + 2) % 4) 0) (get_or w ((r + 3) % 4) 0) in
    word_by f c.from_fn.result c.from_fn.ensures.items.long (made _ f _ (λ r y q call. search rules) c.from_fn.result 4 c.from_fn.ensures.items)

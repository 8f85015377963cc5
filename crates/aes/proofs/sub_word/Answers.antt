-- Each byte substituted.
-- Assumes nothing.
use Rattle.std.proofs.Common.{ℕ, get_or, rules}
use Rattle.aes.specs.Sbox.{sub_byte}
use Rattle.aes.specs.Cipher.{sub_word}
use Rattle.aes.proofs.Arrays.{mapped, word_by}
use Rattle.aes.proofs.sub_word.Goals as goal

pub returns : goal.returns
unfolding sub_word
returns c =
    let w = c.args.w in
    word_by (λ (r : ℕ). sub_byte (get_or w r 0)) c.map.result c.map.ensures.items.long
    (mapped _ sub_byte _ (λ x y q call. search rules) w c.map.result 4 c.map.ensures.items)

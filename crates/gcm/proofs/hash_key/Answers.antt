-- Assumes nothing.
use Rattle.std.proofs.Common.{List, ℕ, length, replicate, ap, ◌∙◌}
use Rattle.cells.specs.Numbers.{number}
use Rattle.aes.specs.Cipher.{cipher}
use Rattle.aes.proofs.Cipher.{cipher_expanded, length_cipher}
use Rattle.gcm.specs.Gcm.{hash_key}
use Rattle.gcm.proofs.Blocks.{number_read}
use Rattle.gcm.proofs.hash_key.Goals as goal

pub returns : goal.returns
unfolding hash_key
returns c key e =
    let zeros : List ℕ = replicate 16 0 in
    c.from_be_bytes.ensures
    ∙ number_read c.encrypt.result (ap length c.encrypt.ensures ∙ length_cipher c.args.keys.now zeros)
    ∙ ap number (c.encrypt.ensures ∙ ap (λ (w : List ℕ). cipher w zeros) e ∙ cipher_expanded key zeros)

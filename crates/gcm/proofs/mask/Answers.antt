-- A byte more in each turn.
-- Assumes nothing.
use Rattle.std.proofs.Common.{◌≡◌, List, [], ◌∷◌, ◌++◌, ℕ, length, get_or, refl, sym, ap, ap₂, ◌∙◌, add-one, arith}
use Rattle.std.specs.Int.Bits.{bit_xor}
use Rattle.std.proofs.Math.Seq.{take_all, take-suc-set}
use Rattle.aes.specs.Cipher.{cipher}
use Rattle.aes.proofs.Cipher.{length_cipher}
use Rattle.gcm.specs.Gctr.{added}
use Rattle.gcm.proofs.Addition.{added_more}
use Rattle.gcm.proofs.Blocks.{bytes_written}
use Rattle.gcm.proofs.mask.Goals as goal

pub loop-i-init : goal.loop-i-init
unfolding added
loop-i-init c = refl

pub loop-i-preserved : goal.loop-i-preserved
loop-i-preserved c =
    let i = c.loop-i.i in
    let text = c.args.text.now in
    let stream = c.encrypt-stream.result in
    let long : length stream ≡ 16 = ap length c.encrypt-stream.ensures ∙ length_cipher c.args.keys.now _ in
    rw add-one
    (take-suc-set c.loop-i.out i _ (omega arith)
    ∙ ap (λ (l : List ℕ). l ++ bit_xor (get_or text i 0) (get_or stream i 0) ∷ []) c.loop-i.invariant
    ∙ sym (added_more text stream i (omega arith) (omega arith)))

pub returns : goal.returns
returns c =
    let i = c.loop-i.i in
    let text = c.args.text.now in
    sym (take_all i c.loop-i.out (omega arith))
    ∙ c.loop-i.invariant
    ∙ ap₂ added (take_all i text (omega arith))
    (c.encrypt-stream.ensures ∙ ap (cipher c.args.keys.now) (c.to_be_bytes.ensures ∙ bytes_written c.args.counter))

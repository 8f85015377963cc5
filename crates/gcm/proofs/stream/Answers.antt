-- A block more in each turn.
-- Assumes nothing.
use Rattle.std.proofs.Common.{◌≡◌, ◌+◌, ◌-◌, ◌*◌, ◌<◌, min, length, take, drop, refl, sym, ap, ◌∙◌, add-one, arith}
use Rattle.std.proofs.Math.Nat.{zero-min}
use Rattle.aes.specs.Cipher.{cipher}
use Rattle.aes.proofs.Cipher.{length_cipher}
use Rattle.cells.specs.Numbers.{bytes_of}
use Rattle.cells.proofs.Runs.{lent}
use Rattle.gcm.specs.Gctr.{inc32, added, counter_at, masked}
use Rattle.gcm.proofs.Masking.{length_added_lent, masked_more, masked_all, mask_expanded}
use Rattle.gcm.proofs.stream.Goals as goal

pub loop-n-init : goal.loop-n-init
unfolding counter_at masked
loop-n-init c = (refl, λ key e. rw zero-min refl)

pub loop-n-preserved : goal.loop-n-preserved
unfolding counter_at
loop-n-preserved c =
    let text = c.args.text.now in
    let keys = c.args.keys.now in
    let icb = c.args.first in
    let n = c.loop-n.n in
    let out = c.loop-n.out in
    let inv = c.loop-n.invariant in
    let e = c.min-end.result in
    let begins : 16 * n < length text = omega (arith, c.div_ceil-n-end.ensures) in
    let ends : e ≡ 16 * n + min 16 (length text - 16 * n) = omega (arith, c.min-end.ensures) in
    let same : length out ≡ length text = omega arith in
    let stream = cipher keys (bytes_of 16 c.loop-n.counter) in
    let x = added (take (e - 16 * n) (drop (16 * n) text)) stream in
    let size : length x ≡ e - 16 * n = length_added_lent text stream (16 * n) e ends (length_cipher keys _) in
    let laid = lent out x (16 * n) e c.mask.ensures (sym size) in (
      rw add-one (c.next-counter.ensures ∙ ap inc32 inv.0),
      λ key expands.
          ap (take (min (16 * (n + 1)) (length text))) laid
          ∙ masked_more key icb text n out x begins same (mask_expanded key text keys icb n e c.loop-n.counter expands inv.0 ends) (inv.1 key expands),
    )

pub returns : goal.returns
returns c key e =
    masked_all key c.args.first c.args.text.now c.loop-n.n c.loop-n.out (omega (arith, c.div_ceil-n-end.ensures)) (omega arith) (c.loop-n.invariant.1 key e)

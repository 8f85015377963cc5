-- A word more in each turn.
-- Assumes nothing.
use Rattle.std.proofs.Common.{◌≡◌, List, ℕ, ◌+◌, ◌*◌, length, take, ap, ap₂, ◌∙◌, arith}
use Rattle.cells.specs.Runs.{spliced}
use Rattle.cells.proofs.Runs.{length_spliced, length_fronted}
use Rattle.aes.specs.Cipher.{xor_word, next_word, temp}
use Rattle.aes.proofs.Schedule.{begun, whole, length_next, extended}
use Rattle.aes.proofs.expand.Goals as goal

pub loop-i-init : goal.loop-i-init
loop-i-init c =
    let key = c.args.key.now in
    let e = c.put_front.ensures in
    (ap length e ∙ length_fronted key _ (omega arith), ap (take 32) e ∙ begun key _ c.told-key)

pub loop-i-preserved : goal.loop-i-preserved
unfolding next_word
loop-i-preserved c =
    let w = c.loop-i.w in
    let i = c.loop-i.i in
    let size : length w ≡ 240 = c.loop-i.invariant.0 in
    let next : c.xor_word-next.result ≡ next_word w i =
    c.xor_word-next.ensures
    ∙ ap₂ xor_word c.word.ensures (c.temp.ensures ∙ ap (λ (t : List ℕ). temp t i) c.word-in-loop-i.ensures)
    in
    let written : c.put_at.new.out ≡ spliced w (4 * i) (next_word w i) = c.put_at.ensures.is ∙ ap (spliced w (4 * i)) next in (
      ap length written ∙ length_spliced w _ (4 * i) (omega (arith, length_next w i)) ∙ size,
      ap (take (4 * (i + 1))) written ∙ extended c.args.key.now w i c.loop-i.auto.i (omega arith) c.loop-i.invariant.1,
    )

pub returns : goal.returns
returns c = whole _ c.loop-i.w c.loop-i.i (omega arith) c.loop-i.invariant.0 c.loop-i.invariant.1

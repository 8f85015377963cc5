-- A bit more in each turn.
-- Assumes nothing.
use Rattle.std.proofs.Common.{ℕ, ◌*◌, ◌/◌, ◌%◌, ◌^◌, refl, ap, ap₂, ◌∙◌, add-one, arith}
use Rattle.std.specs.Int.Bits.{bit_xor}
use Rattle.gcm.specs.Multiply.{halved, product, z_at, v_at}
use Rattle.gcm.proofs.Product.{highest, shifted_more}
use Rattle.gcm.proofs.multiply.Goals as goal

pub loop-i-init : goal.loop-i-init
unfolding z_at v_at
loop-i-init c = (refl, refl, omega arith)

pub loop-i-preserved : goal.loop-i-preserved
unfolding z_at v_at
loop-i-preserved c =
    let x = c.args.x in
    let y = c.args.y in
    let i = c.loop-i._i in
    let inv = c.loop-i.invariant in
    let bit = ap (λ (n : ℕ). n / 2 ^ 127) inv.2 ∙ highest x i (omega arith) in
    rw add-one (
      ap₂ bit_xor inv.0 (c.chosen-z.ensures ∙ ap₂ ◌*◌ bit inv.1),
      c.halved-v.ensures ∙ ap halved inv.1,
      ap (λ (n : ℕ). n * 2 % 2 ^ 128) inv.2 ∙ shifted_more x i,
    )

pub returns : goal.returns
unfolding product
returns c = c.loop-i.invariant.0 ∙ ap (z_at c.args.x c.args.y) (omega arith)

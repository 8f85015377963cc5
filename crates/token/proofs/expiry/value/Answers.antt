use Rattle.std.proofs.Common.{◌≡◌, ◌+◌, ◌-◌, ◌*◌, ℕ, refl, ap, ◌∙◌, get_or, arith, rules}
use lib.Seq.{take_all}
use Rattle.cells.specs.Decimal.{value_after}
use Rattle.token.proofs.Digits.{one_more, bounded, bounded_more}
use Rattle.token.proofs.expiry.value.Goals as goal

pub loop-b-init : goal.loop-b-init
unfolding value_after
loop-b-init c = (refl, omega arith)

pub overflow_mul-value : goal.overflow_mul-value
overflow_mul-value c = omega (arith, bounded c.loop-b.b-index c.loop-b.value (omega (arith, c.requires)) c.loop-b.invariant.1)

pub overflow_add-value : goal.overflow_add-value
overflow_add-value c =
    omega (arith, bounded c.loop-b.b-index c.loop-b.value (omega (arith, c.requires)) c.loop-b.invariant.1, c.from.ensures)

pub loop-b-preserved : goal.loop-b-preserved
loop-b-preserved c =
    let w = c.loop-b in
    let digits = c.args.digits.now in
    let digit : c.from.result ≡ get_or digits w.b-index 0 - 48 = search rules in (
      ap (λ (d : ℕ). w.value * 10 + d) digit ∙ one_more digits w.b-index w.value c.loop-b-test.true w.invariant.0,
      bounded_more w.b-index w.value c.from.result w.invariant.1 (omega arith),
    )

pub returns : goal.returns
returns c = c.loop-b.invariant.0 ∙ ap (value_after 0) (take_all c.loop-b.b-index c.args.digits.now c.loop-b-test.false)

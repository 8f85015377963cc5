-- The digits are at most 15, so their value is far from 2 ^ 64.
-- Assumes nothing.
use Rattle.std.proofs.Common.{rules, ◌≤◌, arith, refl, sym, take, get_or}
use lib.Seq.{length-take-le}
use Rattle.cells.specs.Decimal.{value_after}
use Rattle.structured.specs.Reading.{digit}
use Rattle.structured.proofs.Steps.{value_more, value_small, value_bound, digit_at, digit_range, few, integer_is}
use Rattle.structured.proofs.reading.read_integer.Goals as goal

pub loop-b-init : goal.loop-b-init
unfolding value_after
loop-b-init c = record { is = refl; small = omega arith }

pub slice_bounds-b-items-end : goal.slice_bounds-b-items-end
slice_bounds-b-items-end c =
    let s = c.end-digits.ensures digit (λ b r h e. search rules) in
    sym (length-take-le c.end-digits.result c.front-first.result.now s.within)

pub overflow_mul-value : goal.overflow_mul-value
overflow_mul-value c =
    omega (arith, value_small c.loop-b.b-index c.loop-b.value (omega (arith, few _ _ c.end-digits.result c.front-first.ensures)) c.loop-b.invariant.small)

pub overflow_sub-value : goal.overflow_sub-value
overflow_sub-value c =
    (digit_range _ (digit_at _ _ (c.end-digits.ensures digit (λ b r h e. search rules)) c.loop-b.b-index c.loop-b-test.true)).0

pub overflow_add-value : goal.overflow_add-value
overflow_add-value c =
    let b = get_or (take c.end-digits.result c.front-first.result.now) c.loop-b.b-index 0 in
    let range : (48 ≤ b) × (b ≤ 57) = digit_range b (digit_at _ _ (c.end-digits.ensures digit (λ b r h e. search rules)) c.loop-b.b-index c.loop-b-test.true) in
    omega (
      arith,
      value_small c.loop-b.b-index c.loop-b.value (omega (arith, few _ _ c.end-digits.result c.front-first.ensures)) c.loop-b.invariant.small,
      range,
    )

pub loop-b-preserved : goal.loop-b-preserved
loop-b-preserved c =
    let turn = c.loop-b in
    record {
      is = value_more _ turn.b-index c.loop-b-test.true turn.value turn.invariant.is;
      small =
          value_bound turn.b-index turn.value _ turn.invariant.small
          (digit_at _ _ (c.end-digits.ensures digit (λ b r h e. search rules)) turn.b-index c.loop-b-test.true);
    }

pub returns : goal.returns
returns c =
    integer_is c.args.run.now _ c.loop-b.b-index (rw c.front-first.ensures at (c.end-digits.ensures digit (λ b r h e. search rules)))
    (rw c.front-first.ensures at c.loop-b.invariant.is) (rw c.front-first.ensures at c.loop-b-test.false)

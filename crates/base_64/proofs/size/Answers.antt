-- `size` meets its contract.
-- Assumes nothing.
use Rattle.std.proofs.Common.{◌∙◌, sym, ap, arith, Some, add-zero, true, false}
use Rattle.base_64.specs.InnerSteps.{plus}
use Rattle.base_64.proofs.Measuring.{counts, ends, plus_plus, size_few}
use Rattle.base_64.proofs.size.Goals as goal

pub returns-in_err-n : goal.returns-in_err-n
returns-in_err-n c =
    let here = c.in-Some.ensures.cases in
    let group = sym c.in_err-n.was ∙ c.group_size.ensures in
    c.from_residual.ensures ∙ sym (counts _ _ _ _ _ _ _ c.loop-group.invariant.is here.0 here.1 here.2 c.is_empty.ensures group)

pub loop-group-preserved : goal.loop-group-preserved
loop-group-preserved c =
    let here = c.in-Some.ensures.cases in
    let group = sym c.in_ok-n.was ∙ c.group_size.ensures in record {
      is = counts _ _ _ _ _ _ _ c.loop-group.invariant.is here.0 here.1 here.2 c.is_empty.ensures group ∙ plus_plus _ _ _;
      fits = omega (arith, here.2, size_few c.in-Some.group.now c.is_empty.result c.in_ok-n.field-0 (sym group), c.loop-group.invariant.fits);
    }

pub returns-then-not-is_empty : goal.returns-then-not-is_empty
returns-then-not-is_empty c =
    let left = ends _ false (omega (arith, c.in_default.ensures.cases)) (sym c.if-not-is_empty.true ∙ c.is_empty-2.ensures) in
    sym (c.loop-group.invariant.is ∙ ap (plus c.loop-group.n) left)

pub returns : goal.returns
returns c =
    let left = ends _ true (omega (arith, c.in_default.ensures.cases)) (sym c.if-not-is_empty.false ∙ c.is_empty-2.ensures) in
    sym (c.loop-group.invariant.is ∙ ap (plus c.loop-group.n) left ∙ ap Some (add-zero _))

-- The lowest refusal, of what is asked or of what is told, or the list or the code.
-- Assumes nothing.
use Rattle.std.proofs.Common.{refl, sym, ◌∙◌}
use Rattle.std.proofs.lemmas.Result.{err_from_is_err_and}
use mathlib.Core.Path.{ap₂}
use Rattle.carrier.specs.Verify.{first_refusal}
use Rattle.carrier.specs.InnerSteps.{asked_in}
use Rattle.carrier.proofs.Parts.{none_refused}
use Rattle.carrier.proofs.Numbers.{judged_refused, judged_agreed}
use Rattle.carrier.proofs.verify.judge.Goals as goal

pub check_told-requires : goal.check_told-requires
check_told-requires c =
    let told = c.read_input-sizes.ensures in
    record { label = told.label; names = told.names; created = told.created; key_id = told.key_id }

pub returns-in_err-first : goal.returns-in_err-first
returns-in_err-first c =
    let refusal = err_from_is_err_and c.from_residual.result c.from_residual.ensures.1 in
    rw (refusal.1, refusal.2)
    (judged_refused (asked_in c.args.asked.now) c.args.values.now.input.now c.args.values.now.signature.now
    (sym (ap₂ first_refusal c.check.ensures c.check_told.ensures) ∙ sym c.in_err-first.ensures) _ refl)

pub agrees-requires : goal.agrees-requires
agrees-requires c =
    let none = none_refused _ _ (sym (ap₂ first_refusal c.check.ensures c.check_told.ensures) ∙ sym c.in_ok-first.ensures) in
    let told = c.read_input-sizes.ensures in
    (record { label = told.label; names = told.names; created = told.created; key_id = told.key_id }, none.0, none.1)

pub returns-then-not-agrees : goal.returns-then-not-agrees
returns-then-not-agrees c =
    judged_agreed (asked_in c.args.asked.now) c.args.values.now.input.now c.args.values.now.signature.now
    (sym (ap₂ first_refusal c.check.ensures c.check_told.ensures) ∙ sym c.in_ok-first.ensures) refl
    ∙ rw (← c.agrees.ensures, c.if-not-agrees.true) refl

pub returns : goal.returns
returns c = (
  judged_agreed (asked_in c.args.asked.now) c.args.values.now.input.now c.args.values.now.signature.now
      (sym (ap₂ first_refusal c.check.ensures c.check_told.ensures) ∙ sym c.in_ok-first.ensures) refl
      ∙ rw (← c.agrees.ensures, c.if-not-agrees.false) refl,
  c.read_input-sizes.ensures.created,
)

-- What is lent has not the sizes, is refused, or is verified.
-- Assumes nothing.
use Rattle.std.proofs.Common.{refl}
use Rattle.carrier.specs.Verify.{verified}
use Rattle.carrier.proofs.Numbers.{verify_unfit, verify_long, verify_brief, verify_wide, verify_judged, verified_done, verified_refused}
use Rattle.carrier.proofs.carrier_verify.Goals as goal
use Rattle.carrier.proofs.carrier_verify.Goals.{then-input-gt-MOST_VALUE-via-then-input-gt-MOST_VALUE, then-input-gt-MOST_VALUE-via-else-input-gt-MOST_VALUE+then-signature-gt-MOST_VALUE, then-input-gt-MOST_VALUE-via-else-input-gt-MOST_VALUE+else-signature-gt-MOST_VALUE+then-created-ne-TIME_SIZE}

pub returns-in_default : goal.returns-in_default
unfolding verified
returns-in_default c = rw (c.number.ensures, verify_unfit _ c.args.input.now c.args.signature.now c.args.created.now c.in_default.ensures) refl

pub returns-then-input-gt-MOST_VALUE : goal.returns-then-input-gt-MOST_VALUE
unfolding verified
returns-then-input-gt-MOST_VALUE c =
    rw c.number-then-input-gt-MOST_VALUE.ensures
    (elim c.then-input-gt-MOST_VALUE.branch [
      | then-input-gt-MOST_VALUE-via-then-input-gt-MOST_VALUE w ↦ rw (verify_long _ _ _ _ w.if-input-gt-MOST_VALUE.true) refl
      | then-input-gt-MOST_VALUE-via-else-input-gt-MOST_VALUE+then-signature-gt-MOST_VALUE w ↦ rw (verify_brief _ _ _ _ w.if-signature-gt-MOST_VALUE.true) refl
      | then-input-gt-MOST_VALUE-via-else-input-gt-MOST_VALUE+else-signature-gt-MOST_VALUE+then-created-ne-TIME_SIZE w ↦
          rw (verify_wide _ _ _ _ w.if-created-ne-TIME_SIZE.true) refl
    ])

pub returns-in-Ok : goal.returns-in-Ok
returns-in-Ok c =
    let wide = c.if-created-ne-TIME_SIZE.false in
    rw (← c.in-Some.ensures)
    (verified_done _ _ _ _ (verify_judged _ _ _ _ c.in-Some.asked.fits c.if-input-gt-MOST_VALUE.false c.if-signature-gt-MOST_VALUE.false wide) _ _
    c.in-Ok.ensures wide c.put64.ensures)

pub returns-in-Err : goal.returns-in-Err
returns-in-Err c =
    let wide = c.if-created-ne-TIME_SIZE.false in
    rw (← c.in-Some.ensures, c.number-in-Err.ensures)
    (verified_refused _ _ _ _ (verify_judged _ _ _ _ c.in-Some.asked.fits c.if-input-gt-MOST_VALUE.false c.if-signature-gt-MOST_VALUE.false wide) _
    c.in-Err.ensures)

-- A refusal of sizes or time, of what is asked, or the two lines.
-- Assumes nothing.
use Rattle.std.proofs.Common.{refl, sym, ◌∙◌}
use Rattle.std.proofs.lemmas.Result.{err_from_is_err_and}
use Rattle.carrier.specs.InnerSteps.{asked_in}
use Rattle.carrier.proofs.Writing.{text_short, may_be}
use Rattle.carrier.proofs.Numbers.{sign_late, sign_small, sign_asked}
use Rattle.carrier.proofs.sign.sign.Goals as goal
use Rattle.carrier.proofs.sign.sign.Goals.{then-created-gt-LATEST-via-then-created-gt-LATEST, then-created-gt-LATEST-via-else-created-gt-LATEST+then-out-lt-LEAST_OUT}

pub returns-then-created-gt-LATEST : goal.returns-then-created-gt-LATEST
returns-then-created-gt-LATEST c =
    let a = asked_in c.args.asked.now in
    elim c.then-created-gt-LATEST.branch [
      | then-created-gt-LATEST-via-then-created-gt-LATEST w ↦ (sign_late a c.args.created c.args.out.now w.if-created-gt-LATEST.true, refl)
      | then-created-gt-LATEST-via-else-created-gt-LATEST+then-out-lt-LEAST_OUT w ↦
          (sign_small a c.args.created c.args.out.now w.if-out-lt-LEAST_OUT.true, refl)
    ]

pub returns-in_err-check : goal.returns-in_err-check
returns-in_err-check c =
    let a = asked_in c.args.asked.now in
    let asked = sign_asked a c.args.created c.args.out.now c.args.asked.now.fits c.if-created-gt-LATEST.false c.if-out-lt-LEAST_OUT.false in
    let refusal = err_from_is_err_and c.from_residual.result c.from_residual.ensures.1 in
    rw (refusal.1, refusal.2) (asked ∙ sym c.in_err-check.ensures, refl)

pub returns : goal.returns
returns c =
    let a = asked_in c.args.asked.now in
    let asked = sym c.in_ok-check.ensures in
    let w = may_be c.args.asked.now c.args.created c.args.out.now (c.if-created-gt-LATEST.false, c.if-out-lt-LEAST_OUT.false, asked) in
    (sign_asked a c.args.created c.args.out.now c.args.asked.now.fits w.time w.room ∙ asked, c.write.ensures, text_short w)

-- What is lent has not the sizes, is refused, or is signed.
-- Assumes nothing.
use Rattle.std.proofs.Common.{refl}
use Rattle.carrier.specs.Sign.{signed}
use Rattle.carrier.proofs.Numbers.{sign_unfit, signed_done, signed_refused}
use Rattle.carrier.proofs.carrier_sign.Goals as goal

pub returns-in_default : goal.returns-in_default
unfolding signed
returns-in_default c = rw (c.number.ensures, sign_unfit _ c.args.created c.args.out.now c.in_default.ensures) refl

pub returns-in-Ok : goal.returns-in-Ok
returns-in-Ok c = rw (← c.in-Some.ensures) (signed_done _ _ _ _ _ c.in-Ok.ensures)

pub returns-in-Err : goal.returns-in-Err
returns-in-Err c = rw (← c.in-Some.ensures, c.number-in-Err.ensures) (signed_refused _ _ _ _ _ c.in-Err.ensures)

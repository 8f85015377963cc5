-- Answers for `setup::offered`.
-- Assumes nothing.
use Rattle.std.proofs.Common.{sym, ◌∙◌}
use Rattle.std.proofs.lemmas.Result.{err_from_is_err_and}
use Rattle.gate.proofs.Starting.{tells, offer_lasts}
use Rattle.gate.proofs.setup.offered.Goals as goal

pub returns-in_err-mask : goal.returns-in_err-mask
returns-in_err-mask c s v h e =
    let refusal = err_from_is_err_and c.from_residual.result c.from_residual.ensures.1 in
    rw refusal.1 (tells s _ _ v c.in_err-mask.ensures refusal.0 refusal.2)

pub returns : goal.returns
returns c s v h e =
    let told = tells s _ _ v c.in_ok-mask.ensures in
    offer_lasts s _ _ c.until.result told.0 (c.until.ensures s told.1 h e)

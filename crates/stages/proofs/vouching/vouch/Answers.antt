-- `vouching::vouch` meets its contract.
-- Assumes nothing.
use Rattle.std.proofs.Common.{true, false, sym, ◌∙◌, arith}
use Rattle.std.proofs.lemmas.Grind.{common_steps}
use Rattle.std.proofs.lemmas.Result.{err_from_is_err_and}
use Rattle.stages.proofs.Stages.{opening, unopened_by, lapsed, vouched_by}
use Rattle.stages.proofs.vouching.vouch.Goals as goal

pub returns-in_err-token : goal.returns-in_err-token
returns-in_err-token c o by server_key value reply h lies opens =
    let refusal = err_from_is_err_and c.from_residual.result c.from_residual.ensures.1 in
    rw (refusal.1, refusal.2) (unopened_by _ _ (opening c.in_err-token.was opens))

pub returns-then-le : goal.returns-then-le
returns-then-le c o by server_key value reply h lies opens = lapsed _ _ (opening c.in_ok-token.was opens) (grind (arith, common_steps))

pub returns-then-not-signs : goal.returns-then-not-signs
returns-then-not-signs c o by server_key value reply h lies opens =
    vouched_by _ _ (opening c.in_ok-token.was opens) (grind (arith, common_steps)) false (sym c.if-not-signs.true ∙ c.signs.ensures o by c.args.clock.0 server_key value reply h lies)

pub returns : goal.returns
returns c o by server_key value reply h lies opens =
    vouched_by _ _ (opening c.in_ok-token.was opens) (grind (arith, common_steps)) true (sym c.if-not-signs.false ∙ c.signs.ensures o by c.args.clock.0 server_key value reply h lies)

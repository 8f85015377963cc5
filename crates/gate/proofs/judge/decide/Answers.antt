-- Answers for `judge::decide`.
-- Assumes nothing.
use Rattle.std.proofs.Common.{rules, sym, ◌∙◌}
use Rattle.std.proofs.lemmas.Result.{err_from_is_err_and}
use Rattle.index.specs.Index.{Indexed}
use Rattle.gate.proofs.Numbers.{passed_indexed}
use Rattle.gate.proofs.Judging.{asked_fits, request_sized, bad_orders, unentered, state_entry, decided_by, found_within}
use Rattle.gate.proofs.judge.decide.Goals as goal

pub returns-in_default : goal.returns-in_default
returns-in_default c reply room =
    bad_orders _ _ (request_sized _ _ (asked_fits _ _ c.args.server_key.now c.args.asked.now _ (search rules) room) c.requires) c.in_default.ensures

pub returns-in_err-state : goal.returns-in_err-state
returns-in_err-state c reply room =
    let refusal = err_from_is_err_and c.from_residual.result c.from_residual.ensures.1 in
    let fits = request_sized _ _ (asked_fits _ _ c.args.server_key.now c.args.asked.now reply (search rules) room) c.requires in
    rw (refusal.1, refusal.2) (unentered _ _ _ (state_entry _ _ fits c.in-Some.ensures.0 ∙ sym c.in_err-state.ensures))

pub judged-requires : goal.judged-requires
judged-requires c = let fits : Indexed c.args.table.now c.args.index.now = passed_indexed _ c.requires (sym c.in_ok-state.ensures) in search rules

pub returns : goal.returns
returns c reply room =
    let fits = request_sized _ _ (asked_fits _ _ c.args.server_key.now c.args.asked.now reply (search rules) room) c.requires in
    let entered = state_entry _ _ fits c.in-Some.ensures.0 ∙ sym c.in_ok-state.ensures in
    decided_by _ _ entered room (found_within _ _) c.judged.result (c.judged.ensures _ (λ iv session p. search rules) _ reply c.in-Some.ensures.1)

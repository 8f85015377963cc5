-- Answers for `one::decide`.
-- Assumes nothing.
use Rattle.std.proofs.Common.{rules, sym, ◌∙◌}
use Rattle.std.proofs.lemmas.Result.{err_from_is_err_and}
use Rattle.table.specs.Record.{Fits}
use Rattle.gate.proofs.Judging.{one_sizes, asked_fits, bad_orders, unentered, state_entry, decided_by, found_within}
use Rattle.gate.proofs.one.decide.Goals as goal

pub returns-in_default : goal.returns-in_default
returns-in_default c reply room =
    let fits : Fits c.args.«record» = search rules in
    let sized = asked_fits _ _ c.args.server_key.now c.args.asked.now reply (search rules) room in
    bad_orders _ _ (one_sizes _ fits _ ∙ sized) c.in_default.ensures

pub returns-in_err-sound : goal.returns-in_err-sound
returns-in_err-sound c reply room =
    let fits : Fits c.args.«record» = search rules in
    let refusal = err_from_is_err_and c.from_residual.result c.from_residual.ensures.1 in
    let sized = asked_fits _ _ c.args.server_key.now c.args.asked.now reply (search rules) room in
    rw (refusal.1, refusal.2) (unentered _ _ _ (state_entry _ _ (one_sizes _ fits _ ∙ sized) c.in-Some.ensures.0 ∙ sym c.in_err-sound.ensures))

pub returns : goal.returns
returns c reply room =
    let fits : Fits c.args.«record» = search rules in
    let sized = asked_fits _ _ c.args.server_key.now c.args.asked.now reply (search rules) room in
    let entered = state_entry _ _ (one_sizes _ fits _ ∙ sized) c.in-Some.ensures.0 ∙ sym c.in_ok-sound.ensures in
    decided_by _ _ entered room (found_within _ _) c.judged.result (c.judged.ensures _ (λ iv session p. search rules) _ reply c.in-Some.ensures.1)

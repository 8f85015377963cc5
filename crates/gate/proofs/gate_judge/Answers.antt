-- Answers for `gate_judge`.
-- Assumes nothing.
use Rattle.std.proofs.Common.{sym, ap, ◌∙◌}
use Rattle.std.specs.Prelude.{Ok, Err}
use Rattle.orders.specs.Orders.{orders_of}
use Rattle.stages.specs.Request.{Request, request_of}
use Rattle.gate.specs.State.{State, holding}
use Rattle.gate.specs.InnerDecisions.{DecidesAs, answered_by}
use Rattle.gate.proofs.Judging.{request_sized, lent_unsized, state_unsized, reply_room, sizes_judged, refused_judged, decided_for, applied_judged}
use Rattle.gate.proofs.gate_judge.Goals as goal
use Rattle.gate.proofs.gate_judge.Goals.{In-Ok, in_default-via-in-Some+else-state_fits, in_default-via-in_default}

pub returns-in_default : goal.returns-in_default
returns-in_default c =
    let a = c.args in
    let o = orders_of a.mask a.hashes a.extra.now a.request_life a.idle a.session_life in
    rw c.number.ensures (sizes_judged _ _ (elim c.in_default.branch [
      | in_default-via-in-Some+else-state_fits w ↦ state_unsized _ _ (sym w.state_fits.ensures ∙ w.if-state_fits.false)
      | in_default-via-in_default w ↦ lent_unsized _ _ (w.in_default.ensures o a.clock)
    ]))

pub decide-requires : goal.decide-requires
decide-requires c = sym c.state_fits.ensures ∙ c.if-state_fits.true

-- what is lent, and what is decided of it
asked : (c : In-Ok) → Request
asked c =
    let a = c.args in
    request_of (orders_of a.mask a.hashes a.extra.now a.request_life a.idle a.session_life) a.clock a.server_key.now a.value.now a.method.now a.head.now a.aside.now a.path.now a.body.now a.reply.now

kept : (c : In-Ok) → State
kept c = holding c.args.table.now c.args.index.now

decided : (c : In-Ok) → DecidesAs (asked c) (kept c) c.in-Ok.decision
unfolding asked kept
decided c =
    let a = c.args in
    let o = orders_of a.mask a.hashes a.extra.now a.request_life a.idle a.session_life in
    let told = c.in-Some.ensures o a.clock in
    let fits = request_sized _ (kept c) told.0 (sym c.state_fits.ensures ∙ c.if-state_fits.true) in
    decided_for o a.clock _ _ _ _ _ _ _ a.reply.now c.in-Some.lent.0.now c.in-Some.lent.1 told.1 told.2 (kept c) (Ok c.in-Ok.decision) c.in-Ok.ensures
    (reply_room _ _ fits)

pub apply-requires : goal.apply-requires
unfolding asked kept
apply-requires c = let d = decided (goal.at.apply-requires c).In-Ok in (d.within, λ t. d.indexed)

pub answer-requires : goal.answer-requires
unfolding asked kept
answer-requires c t = (decided (goal.at.answer-requires c).In-Ok).room

pub returns-in-Ok : goal.returns-in-Ok
unfolding asked kept
returns-in-Ok c =
    c.answer.ensures _ ∙ ap (answered_by c.in-Ok.decision c.args.reply.now) c.apply.ensures
    ∙ applied_judged _ _ c.in-Ok.decision (decided (goal.at.returns-in-Ok c).In-Ok)

pub returns-in-Err : goal.returns-in-Err
returns-in-Err c =
    let a = c.args in
    let o = orders_of a.mask a.hashes a.extra.now a.request_life a.idle a.session_life in
    let told = c.in-Some.ensures o a.clock in
    let fits = request_sized _ _ told.0 (sym c.state_fits.ensures ∙ c.if-state_fits.true) in
    rw c.number-in-Err.ensures (refused_judged _ _ c.in-Err.refusal
    (decided_for o a.clock _ _ _ _ _ _ _ a.reply.now c.in-Some.lent.0.now c.in-Some.lent.1 told.1 told.2 _ (Err c.in-Err.refusal) c.in-Err.ensures
    (reply_room _ _ fits)))

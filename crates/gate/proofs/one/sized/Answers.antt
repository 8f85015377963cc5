-- Answers for `one::sized`.
-- Assumes nothing.
use Rattle.std.proofs.Common.{rules, ap, ◌∙◌}
use Rattle.orders.specs.Orders.{orders}
use Rattle.table.specs.Record.{Fits, record_bytes}
use Rattle.stages.specs.Request.{Request}
use Rattle.gate.specs.State.{indexed}
use Rattle.gate.specs.InnerSizes.{request_by}
use Rattle.gate.specs.InnerDecisions.{DecidesAs, answered_by}
use Rattle.gate.proofs.Judging.{one_kept, refused_judged, applied_judged}
use Rattle.gate.proofs.one.sized.Goals as goal
use Rattle.gate.proofs.one.sized.Goals.{In-Ok}

fits : (c : In-Ok) → Fits c.args.«record»
fits c = search rules

abbrev asked : In-Ok → Request
asked c = let a = c.args in request_by (orders a.numbers a.extra.now) a.clock.0 a.server_key.now a.asked.now a.reply.now

decided : (c : In-Ok) → DecidesAs (asked c) (indexed (record_bytes c.args.«record»)) c.in-Ok.decision
decided c = c.in-Ok.ensures c.args.reply.now c.requires

pub answer-requires : goal.answer-requires
answer-requires c t = (decided (goal.at.answer-requires c).In-Ok).room

pub after-requires : goal.after-requires
after-requires c = let here = (goal.at.after-requires c).In-Ok in one_kept (asked here) _ (fits here) c.in-Ok.decision (decided here)

pub returns-in-Ok : goal.returns-in-Ok
returns-in-Ok c =
    let here = (goal.at.returns-in-Ok c).In-Ok in
    c.answer.ensures _ ∙ ap (answered_by c.in-Ok.decision c.args.reply.now) c.after.ensures
    ∙ applied_judged (asked here) _ c.in-Ok.decision (decided here)

pub returns-in-Err : goal.returns-in-Err
returns-in-Err c = rw c.number.ensures (refused_judged _ _ c.in-Err.refusal (c.in-Err.ensures c.args.reply.now c.requires))

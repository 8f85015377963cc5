-- Answers for `one::judge`.
-- Assumes nothing.
use Rattle.std.proofs.Common.{rules, ap, ◌∙◌}
use Rattle.orders.specs.Orders.{orders_of}
use Rattle.stages.specs.Request.{Request}
use Rattle.table.specs.Record.{Fits, record_bytes}
use Rattle.gate.specs.State.{indexed}
use Rattle.gate.specs.Judge.{judged}
use Rattle.gate.proofs.Judging.{one_sizes, reply_room, lent_unsized, sizes_judged, the_request}
use Rattle.gate.proofs.one.judge.Goals as goal

pub returns-in_default : goal.returns-in_default
returns-in_default c =
    let a = c.args in
    let o = orders_of a.mask a.hashes a.extra.now a.request_life a.idle a.session_life in
    rw c.number.ensures (sizes_judged _ _ (lent_unsized _ _ (c.in_default.ensures o a.clock)))

pub sized-answer-requires : goal.sized-answer-requires
sized-answer-requires c =
    let a = c.args in
    let o = orders_of a.mask a.hashes a.extra.now a.request_life a.idle a.session_life in
    let fits : Fits a.«record» = search rules in
    reply_room _ _ (one_sizes a.«record» fits _ ∙ (c.in-Some.ensures o a.clock).0)

pub returns : goal.returns
returns c =
    let a = c.args in
    let o = orders_of a.mask a.hashes a.extra.now a.request_life a.idle a.session_life in
    let told = c.in-Some.ensures o a.clock in
    c.sized-answer.ensures ∙ ap (λ (q : Request). judged q (indexed (record_bytes a.«record»))) (the_request o a.clock _ _ _ _ _ _ _ a.reply.now _ c.in-Some.asked told.1 told.2)

-- Answers for `gate_setup`.
-- Assumes nothing.
use Rattle.std.proofs.Common.{refl, ◌∙◌}
use Rattle.std.specs.Prelude.{Ok, Err}
use Rattle.orders.specs.Orders.{orders_of}
use Rattle.orders.proofs.Orders.{good_extra_lem}
use Rattle.gate.specs.State.{State, holding}
use Rattle.gate.specs.Calls.{Setup, setup_of}
use Rattle.gate.specs.InnerStarts.{Starts}
use Rattle.gate.proofs.Starting.{lent, opened, starts, refuses, sizes_set_up, started_for, start_indexed}
use Rattle.gate.proofs.gate_setup.Goals as goal
use Rattle.gate.proofs.gate_setup.Goals.{In-Ok}

pub returns-in_default : goal.returns-in_default
returns-in_default c =
    let a = c.args in
    let o = orders_of a.mask a.hashes a.extra.now a.request_life a.idle a.session_life in
    rw c.number.ensures (sizes_set_up _ _ (c.in_default.ensures o a.clock))

pub decide-requires : goal.decide-requires
decide-requires c =
    let a = c.args in
    let o = orders_of a.mask a.hashes a.extra.now a.request_life a.idle a.session_life in
    (lent _ _ (c.in-Some.ensures o a.clock).0).kept

-- what is lent, and what is decided of it
asked : (c : In-Ok) → Setup
asked c =
    let a = c.args in
    setup_of (orders_of a.mask a.hashes a.extra.now a.request_life a.idle a.session_life) a.clock a.server_key.now a.session_key.now a.iv.now a.session_id.now a.value.now a.reply.now

kept : (c : In-Ok) → State
kept c = holding c.args.table.now c.args.index.now

decided : (c : In-Ok) → Starts (asked c) (kept c) c.in-Ok.start
unfolding asked kept
decided c =
    let a = c.args in
    let o = orders_of a.mask a.hashes a.extra.now a.request_life a.idle a.session_life in
    let told = c.in-Some.ensures o a.clock in
    started_for (asked c) c.in-Some.lent told.1 (kept c) (Ok c.in-Ok.start) c.in-Ok.ensures (lent _ _ told.0).reply

pub invariant_of-covered : goal.invariant_of-covered
unfolding asked kept
invariant_of-covered c = record { good = good_extra_lem _ (opened _ _ (decided (goal.at.invariant_of-covered c).In-Ok).none).orders }

pub apply-requires : goal.apply-requires
unfolding asked kept
apply-requires c =
    let a = c.args in
    let o = orders_of a.mask a.hashes a.extra.now a.request_life a.idle a.session_life in
    let told = c.in-Some.ensures o a.clock in
    let d = decided (goal.at.apply-requires c).In-Ok in
    (d.within, (lent _ _ told.0).reply, start_indexed _ _ told.0 d.none, rw told.1.iv d.new)

pub returns-in-Ok : goal.returns-in-Ok
unfolding asked kept
returns-in-Ok c =
    let a = c.args in
    let o = orders_of a.mask a.hashes a.extra.now a.request_life a.idle a.session_life in
    let told = c.in-Some.ensures o a.clock in
    c.apply.ensures ∙ starts _ _ _ c.in-Some.lent c.in-Ok.start (record { mask = refl; extra = refl }) told.1 (decided (goal.at.returns-in-Ok c).In-Ok)

pub returns-in-Err : goal.returns-in-Err
returns-in-Err c =
    let a = c.args in
    let o = orders_of a.mask a.hashes a.extra.now a.request_life a.idle a.session_life in
    let told = c.in-Some.ensures o a.clock in
    rw c.number-in-Err.ensures (refuses _ _ c.in-Err.refusal
    (started_for _ c.in-Some.lent told.1 _ (Err c.in-Err.refusal) c.in-Err.ensures (lent _ _ told.0).reply))

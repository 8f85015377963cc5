-- Answers for `trying::fits`.
-- Assumes nothing.
use Rattle.std.proofs.Common.{◌≡◌, true, false, sym, ap, ◌∙◌}
use Rattle.orders.specs.Orders.{orders_good, OrderedBy}
use Rattle.gate.specs.Trial.{Trial, trial_of, orders_in}
use Rattle.gate.proofs.Trials.{unsized, not_laid_out, bad_orders, held_against, orders_told, against_for}
use Rattle.gate.proofs.trying.fits.Goals as goal

pub returns-in_default : goal.returns-in_default
returns-in_default c = unsized _ c.in_default.ensures

pub returns-in_default-read : goal.returns-in_default-read
returns-in_default-read c = not_laid_out _ c.in-Some.ensures.0 c.in_default-read.ensures

pub returns-in_default-check : goal.returns-in_default-check
returns-in_default-check c =
    let a = c.args in
    let t = trial_of a.setup_reply.now a.value.now a.method.now a.head.now a.aside.now a.path.now a.body.now in
    let told = orders_told t _ c.in-Some-read.ensures.1 in
    bad_orders t c.in-Some.ensures.0 c.in-Some-read.ensures.0 (rw (told, ← c.as_slice.ensures) c.in_default-check.ensures)

pub returns : goal.returns
returns c =
    let a = c.args in
    let t = trial_of a.setup_reply.now a.value.now a.method.now a.head.now a.aside.now a.path.now a.body.now in
    let told = orders_told t _ c.in-Some-read.ensures.1 in
    let by : OrderedBy (orders_in t) c.in-Some-check.ordered = rw (told, ← c.as_slice.ensures) c.in-Some-check.ensures.1 in
    held_against t c.in-Some.ensures.0 c.in-Some-read.ensures.0 (rw (told, ← c.as_slice.ensures) c.in-Some-check.ensures.0) _
    (against_for t _ _ _ _ c.in-Some.ensures.1 c.against.ensures c.in-Some-read.ensures.1 by)

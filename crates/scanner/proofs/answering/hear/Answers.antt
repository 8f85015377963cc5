-- No session, another value, or no session any more.
-- Assumes nothing.
use Rattle.std.proofs.Common.{sym, ap, ◌∙◌}
use Rattle.std.proofs.lemmas.Result.{err_from_is_err_and}
use Rattle.cells.specs.Runs.{same}
use Rattle.scanner.specs.State.{Session}
use Rattle.scanner.specs.Begin.{answer}
use Rattle.scanner.specs.Hear.{own_invalidation}
use Rattle.scanner.proofs.States.{tells}
use Rattle.scanner.proofs.Steps.{refused, hear_none, hear_other, hear_done}
use Rattle.scanner.proofs.answering.hear.Goals as goal

pub returns-in_err-session : goal.returns-in_err-session
returns-in_err-session c =
    let refusal = err_from_is_err_and c.from_residual.result c.from_residual.ensures.1 in
    let none = c.in_err-session.ensures.ok_part in
    rw (refusal.1, refusal.2, refused c.read.result _ _ none c.in_err-session.ensures.value)
    (hear_none c.args.value.now c.args.state.now (rw none at c.read.ensures))

pub returns-then-not-is_invalidation : goal.returns-then-not-is_invalidation
returns-then-not-is_invalidation c =
    let reads = rw c.in_ok-session.ensures.ok_part at c.read.ensures in
    hear_other c.args.value.now c.args.state.now reads.0
    (ap (λ (k : Session). same c.args.value.now (own_invalidation k.grant)) (sym reads.1) ∙ sym c.is_invalidation.ensures ∙ c.if-not-is_invalidation.true)

pub clear-requires : goal.clear-requires
clear-requires c = let reads = rw c.in_ok-session.ensures.ok_part at c.read.ensures in (tells c.args.state.now reads.0).long

pub returns : goal.returns
returns c =
    let reads = rw c.in_ok-session.ensures.ok_part at c.read.ensures in
    ap (answer 0) c.clear.ensures
    ∙ hear_done c.args.value.now c.args.state.now reads.0
    (ap (λ (k : Session). same c.args.value.now (own_invalidation k.grant)) (sym reads.1) ∙ sym c.is_invalidation.ensures ∙ c.if-not-is_invalidation.false)

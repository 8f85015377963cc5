-- Answers for `end`.
-- Assumes nothing.
use Rattle.std.proofs.Common.{sym, ap, ◌∙◌, not}
use Rattle.std.proofs.lemmas.Result.{err_from_is_err_and}
use Rattle.gate.proofs.Numbers.{end_stated, never_zero, passed_indexed}
use Rattle.gate.proofs.Judging.{is_there}
use Rattle.gate.proofs.Starting.{unplaced}
use Rattle.gate.proofs.Ending.{end_unsized, end_refused, end_missing, end_freed}
use Rattle.gate.proofs.upkeep.end.Goals as goal

pub returns-in_default : goal.returns-in_default
returns-in_default c = end_unsized _ _ c.in_default.ensures

pub state-requires : goal.state-requires
state-requires c = end_stated _ _ c.in-Some.ensures.0

pub returns-in_err-state : goal.returns-in_err-state
returns-in_err-state c =
    let refusal = err_from_is_err_and c.from_residual.result c.from_residual.ensures.1 in
    rw (refusal.1, refusal.2) (end_refused _ _ c.in-Some.ensures.0 _ c.in_err-state.ensures (never_zero _))

pub find-place-requires : goal.find-place-requires
find-place-requires c = passed_indexed _ (end_stated _ _ c.in-Some.ensures.0) (sym c.in_ok-state.ensures)

pub returns-then-is_none : goal.returns-then-is_none
returns-then-is_none c =
    end_missing _ _ c.in-Some.ensures.0 (sym c.in_ok-state.ensures)
    (rw (← c.in-Some.ensures.1, ← c.find-place.ensures.is) (unplaced _ (c.is_none.ensures ∙ ap not c.if-is_none.true)))

pub free-requires : goal.free-requires
free-requires c = (c.find-place.ensures.within, passed_indexed _ (end_stated _ _ c.in-Some.ensures.0) (sym c.in_ok-state.ensures))

pub returns : goal.returns
returns c =
    end_freed _ _ c.in-Some.ensures.0 (sym c.in_ok-state.ensures) c.find-place.result
    (rw (← c.in-Some.ensures.1) (sym c.find-place.ensures.is)) (is_there _ ∙ ap not (c.is_none.ensures ∙ ap not c.if-is_none.false)) c.free.ensures.0 c.free.ensures.1

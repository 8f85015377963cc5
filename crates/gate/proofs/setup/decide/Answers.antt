-- Answers for `setup::decide`.
-- Assumes nothing.
use Rattle.std.proofs.Common.{refl, sym, ◌∙◌}
use Rattle.std.proofs.lemmas.Result.{err_from_is_err_and}
use Rattle.gate.proofs.Numbers.{passed_indexed}
use Rattle.gate.proofs.Starting.{lent_sized, bad_orders, entry_refuses, offer_refuses, room_refuses, state_entry, begins, expires}
use Rattle.gate.proofs.setup.decide.Goals as goal

pub returns-in_default : goal.returns-in_default
returns-in_default c reply room = bad_orders _ _ (lent_sized _ _ c.args.lent.now _ _ c.requires room) c.in_default.ensures

pub returns-in_err-state : goal.returns-in_err-state
returns-in_err-state c reply room =
    let refusal = err_from_is_err_and c.from_residual.result c.from_residual.ensures.1 in
    let fits = lent_sized _ _ c.args.lent.now reply _ c.requires room in
    rw (refusal.1, refusal.2) (entry_refuses _ _ _ (state_entry _ _ fits c.in-Some.ensures.0 ∙ sym c.in_err-state.ensures))

pub returns-in_err-offer : goal.returns-in_err-offer
returns-in_err-offer c reply room =
    let refusal = err_from_is_err_and c.from_residual-in_err-offer.result c.from_residual-in_err-offer.ensures.1 in
    let fits = lent_sized _ _ c.args.lent.now reply _ c.requires room in
    let by = c.in-Some.ensures.1 in
    let entered = state_entry _ _ fits c.in-Some.ensures.0 ∙ sym c.in_ok-state.ensures in
    rw (refusal.1, refusal.2) (offer_refuses _ _ entered _ (c.in_err-offer.ensures _ refl (sym by.hashes) (expires _ _ by)))

pub room-requires : goal.room-requires
room-requires c = passed_indexed _ c.requires (sym c.in_ok-state.ensures)

pub returns-in_err-place : goal.returns-in_err-place
returns-in_err-place c reply room =
    let refusal = err_from_is_err_and c.from_residual-in_err-place.result c.from_residual-in_err-place.ensures.1 in
    let fits = lent_sized _ _ c.args.lent.now reply _ c.requires room in
    let by = c.in-Some.ensures.1 in
    let entered = state_entry _ _ fits c.in-Some.ensures.0 ∙ sym c.in_ok-state.ensures in
    let offer = c.in_ok-offer.ensures _ refl (sym by.hashes) (expires _ _ by) in
    rw (refusal.1, refusal.2) (room_refuses _ _ entered offer.none _ (c.in_err-place.ensures _ refl refl))

pub returns : goal.returns
returns c reply room =
    let fits = lent_sized _ _ c.args.lent.now reply _ c.requires room in
    let by = c.in-Some.ensures.1 in
    let entered = state_entry _ _ fits c.in-Some.ensures.0 ∙ sym c.in_ok-state.ensures in
    let offer = c.in_ok-offer.ensures _ refl (sym by.hashes) (expires _ _ by) in
    begins _ _ entered offer.none _ _ (expires _ _ by) offer _ (c.in_ok-place.ensures _ refl refl)

-- Demand 2 of document 00: "On a table that began empty and that only these calls changed, with no IV lent to two setups and nonces
-- ordered, a request that passes the other checks is accepted exactly if its nonce was not accepted before in that session and is less
-- than 64 below the highest accepted; a first nonce always passes."
-- `accepted_exactly` is that sentence. `verdict_exactly` says more: which of 0, 15 and 16 is answered, and it asks only that no two setups
-- that were answered 0 had one IV. The calls before are any, with any arguments and answers, and need not order nonces. The table has any
-- number of records: where that is not 1 to 4,096, each call that is lent it answers 1. A session is known by its IV (document 01).
-- `well_formed_lem` and `never_malformed`: such a table stays well formed and keeps its length, so 3 is never answered. `index_right` and
-- `never_unindexed`: beside a table of 1 to 4,096 records an index that began without an entry stays the one that fits, so 22 is never answered.
-- Assumes nothing.
pub mod Sessions
pub mod Tables
pub mod One
pub mod Calls
pub mod Lent
use mathlib.Core.Path.{◌≡◌, refl, sym, ap, subst, ◌∙◌}
use mathlib.Core.Logic.{◌↔◌}
use mathlib.Core.Bool.{true}
use mathlib.Core.List.{List, [], ◌∷◌}
use Prim.Native.Nat.{ℕ, zero, suc, ◌*◌, ◌%◌, ◌≤◌}
use native.Mathlib.Omega.{arith}
use borrow.Author.Tests.{eqb-true, eq-eqb, le-leb}
use lib.ListN.{length, get_or, replicate, length-replicate}
use Rattle.window.specs.declared.Stepped.{Stepped}
use Rattle.window.specs.Window.{number_of}
use Rattle.window.specs.History.{admits, verdict_after}
use Rattle.window.proofs.Tracks.{right, admitted}
use Rattle.cells.specs.Runs.{same}
use Rattle.cells.proofs.Equality.{same_self}
use Rattle.table.specs.declared.session.Record.{Record}
use Rattle.table.specs.Record as R
use Rattle.table.specs.Record.{size, freed}
use Rattle.table.specs.Table.{records}
use Rattle.table.specs.WellFormed.{well_formed}
use Rattle.table.proofs.Records.{length_records}
use Rattle.table.proofs.Meaning.{is_well_formed}
use Rattle.index.specs.Index.{filled, coded, index_of}
use Rattle.index.proofs.Coded.{vacated}
use Rattle.signed.specs.SignedText.{orders_nonce}
use Rattle.stages.specs.Request.{Request}
use Rattle.gate.specs.State.{State}
use Rattle.gate.specs.Sizes.{table_fits, state_fits}
use Rattle.gate.specs.Entry.{state_checks, entry_checks}
use Rattle.gate.specs.Setup as S
use Rattle.gate.specs.Setup.{offer_part, lasting_part, room_part, setup_checks}
use Rattle.stages.specs.Parts.{iv_of, nonce_of, reading_part, covering_part, token_part, signature_part, session_part, nonce_part}
use Rattle.gate.specs.Judge.{entry_part, request_checks, judged}
use Rattle.gate.specs.End.{end_checks}
use Rattle.gate.specs.Remake.{remake_checks}
use Rattle.demands.specs.History.{Call, setting_up, judging, judging_one, ending, making_index, taken_out, answer, empty, after, accepted_in, set_up_in, chosen_in, lent_in, Apart}
use Rattle.demands.specs.Effects.{Right}
use Rattle.demands.specs.Passing.{PassesOthers}
use Rattle.demands.proofs.Shared.Checks.{never_given}
use Rattle.demands.proofs.Shared.Indexes.{right_same, right_sized}
use Rattle.demands.proofs.Shared.TakenOut.{one_well}
use Rattle.demands.proofs.Index.Calls.{call_right}
use Rattle.demands.proofs.History.Tables.{Standing, held, empty_records, empty_standing}
use Rattle.demands.proofs.Shared.Answers.{set_up_number, ended_number, remade_number, judged_number_lem}
use Rattle.demands.proofs.Shared.Others.{accepts_zero, passes_finds, passes_window}
use Rattle.demands.proofs.History.Lent.{lent_apart}
use Rattle.demands.proofs.History.Calls.{held_step, call_standing}

-- after any calls the table's sessions are those of the history
pub standing : (n : ℕ) (calls : List Call)
    → Standing n (after (empty n) calls).table (set_up_in (empty n) calls) (λ iv. accepted_in iv (empty n) calls)
    (λ iv. chosen_in iv (empty n) calls)
unfolding after set_up_in accepted_in chosen_in
standing n [] = empty_standing n
standing n (call ∷ earlier) = call_standing n _ _ _ _ (standing n earlier) call

-- which of 0, 15 and 16 a request that passes the other checks is answered
pub verdict_exactly : (n : ℕ) (calls : List Call) (q : Request)
    → Apart (set_up_in (empty n) calls)
    → orders_nonce q.orders.numbers.mask ≡ true
    → PassesOthers q (after (empty n) calls)
    → (judged q (after (empty n) calls)).number ≡ number_of (verdict_after (accepted_in (iv_of q) (empty n) calls) (nonce_of q))
verdict_exactly n calls q apart ordered passes =
    let state = after (empty n) calls in
    let before = accepted_in (iv_of q) (empty n) calls in
    let st = standing n calls in
    let f = passes_finds q state passes in
    judged_number_lem q state
    ∙ passes_window q state passes ordered
    ∙ ap (λ (s : Stepped). number_of s.verdict) (held_step n state _ _ _ st q f)
    ∙ ap number_of (right _ before (st.sessions.known apart (iv_of q) f.place f.finds) (nonce_of q)).verdict

-- the customer's sentence
pub accepted_exactly : (n : ℕ) (calls : List Call) (q : Request)
    → Apart (lent_in calls)
    → orders_nonce q.orders.numbers.mask ≡ true
    → PassesOthers q (after (empty n) calls)
    → ((judged q (after (empty n) calls)).number ≡ 0) ↔ (admits (accepted_in (iv_of q) (empty n) calls) (nonce_of q) ≡ true)
accepted_exactly n calls q lent ordered passes =
    let before = accepted_in (iv_of q) (empty n) calls in
    let verdict = verdict_after before (nonce_of q) in
    let number = verdict_exactly n calls q (lent_apart (empty n) calls lent) ordered passes in
    let admits_zero = sym (admitted before (nonce_of q)) ∙ accepts_zero verdict in (
      λ e. admits_zero ∙ eq-eqb (number_of verdict) 0 (sym number ∙ e),
      λ e. number ∙ eqb-true (number_of verdict) 0 (sym admits_zero ∙ e),
    )

-- a first nonce always passes
pub first_passes : (n : ℕ) (calls : List Call) (q : Request)
    → Apart (lent_in calls)
    → orders_nonce q.orders.numbers.mask ≡ true
    → PassesOthers q (after (empty n) calls)
    → accepted_in (iv_of q) (empty n) calls ≡ []
    → (judged q (after (empty n) calls)).number ≡ 0
first_passes n calls q lent ordered passes none =
    (accepted_exactly n calls q lent ordered passes).1 (ap (λ (before : List ℕ). admits before (nonce_of q)) none)

-- the table stays well formed and keeps its length
pub well_formed_lem : (n : ℕ) (calls : List Call)
    → (well_formed (records (after (empty n) calls).table) ≡ true) × (length (after (empty n) calls).table ≡ length (empty n).table)
well_formed_lem n calls = (
  is_well_formed (records (after (empty n) calls).table) (standing n calls).sessions.well,
  (standing n calls).long ∙ sym (length-replicate {A = ℕ} (size * n) 0),
)

-- so no further call answers 3
pub never_malformed : (n : ℕ) (calls : List Call) (call : Call) → (answer call (after (empty n) calls)).number ≡ 3 → ⊥
unfolding setup_checks S.entry_part offer_part lasting_part room_part request_checks entry_part reading_part covering_part token_part signature_part session_part nonce_part end_checks remake_checks entry_checks state_checks
never_malformed n calls (setting_up s) e =
    let well = (well_formed_lem n calls).0 in
    never_given 3 (setup_checks s (after (empty n) calls)) (λ z. omega arith) (rw well) (sym (set_up_number s _) ∙ e)
never_malformed n calls (judging q) e =
    let well = (well_formed_lem n calls).0 in
    never_given 3 (request_checks q (after (empty n) calls)) (λ z. omega arith) (rw well) (sym (judged_number_lem q _) ∙ e)
never_malformed n calls (judging_one place q) e =
    let state = after (empty n) calls in
    let well = is_well_formed _ (one_well state (standing n calls).sessions.well place) in
    never_given 3 (request_checks q (taken_out place state)) (λ z. omega arith) (rw well) (sym (judged_number_lem q _) ∙ e)
never_malformed n calls (ending iv) e =
    let well = (well_formed_lem n calls).0 in
    never_given 3 (end_checks iv (after (empty n) calls)) (λ z. omega arith) (rw well) (sym (ended_number iv _) ∙ e)
never_malformed n calls making_index e =
    let well = (well_formed_lem n calls).0 in
    never_given 3 (remake_checks (after (empty n) calls)) (λ z. omega arith) (rw well) (sym (remade_number _) ∙ e)

-- the index of an empty table
empty_right : (n : ℕ) → Right (empty n)
empty_right n = record {
  ps = [];
  used = λ p s. absurd (omega (arith, s.within));
  all = λ p u. absurd (unused p u.1);
  rising = λ i j l m. absurd (omega arith);
  bytes = sym (vacated n) ∙ ap (λ (k : ℕ). coded (filled k [])) (sym (ap length (empty_records n) ∙ length-replicate n freed));
}
  where
    all_freed : (k p : ℕ) → (get_or (replicate k freed) p freed).used ≡ 0
    all_freed zero p = refl
    all_freed (suc k) zero = refl
    all_freed (suc k) (suc p) = all_freed k p

    unused : (p : ℕ) → (get_or (records (empty n).table) p freed).used ≡ 1 → ⊥
    unused p u =
        let free = ap (λ (rs : List Record). (get_or rs p freed).used) (empty_records n) ∙ all_freed n p in
        omega arith

-- its size is right, and so is the table's
sized : (n : ℕ) → 1 ≤ n → n ≤ 4096 → (state : State) → Right state → length state.table ≡ size * n → state_fits state ≡ true
unfolding state_fits table_fits
sized n some few state right long =
    rw (
      eq-eqb (length state.table % size) 0 (omega arith),
      le-leb size (length state.table) (omega arith),
      le-leb (length state.table) (4096 * size) (omega arith),
      right_sized state right,
    ) refl

-- after any calls the index is the one that fits
pub index_right : (n : ℕ) → 1 ≤ n → n ≤ 4096 → (calls : List Call) → Right (after (empty n) calls)
unfolding after
index_right n some few [] = empty_right n
index_right n some few (call ∷ earlier) =
    let st = standing n earlier in
    let state = after (empty n) earlier in
    let right = index_right n some few earlier in
    call_right state (sized n some few state right st.long)
    (λ i l. subst (λ (r : Record). R.Fits r) (sym (held n state.table _ _ _ st i (rw length_records l))) (st.sessions.fit i (rw length_records l)))
    st.sessions.well right call

-- so no further call answers 22
pub never_unindexed : (n : ℕ) → 1 ≤ n → n ≤ 4096 → (calls : List Call) (call : Call) → (answer call (after (empty n) calls)).number ≡ 22 → ⊥
unfolding setup_checks S.entry_part offer_part lasting_part room_part request_checks entry_part reading_part covering_part token_part signature_part session_part nonce_part end_checks remake_checks entry_checks state_checks
never_unindexed n some few calls call e = by call e
  where
    state : State
    state = after (empty n) calls

    fits : same state.index (index_of (records state.table)) ≡ true
    fits = right_same state (index_right n some few calls)

    by : (c : Call) → (answer c state).number ≡ 22 → ⊥
    by (setting_up s) e = never_given 22 (setup_checks s state) (λ z. omega arith) (rw fits) (sym (set_up_number s state) ∙ e)
    by (judging q) e = never_given 22 (request_checks q state) (λ z. omega arith) (rw fits) (sym (judged_number_lem q state) ∙ e)
    by (judging_one place q) e =
        never_given 22 (request_checks q (taken_out place state)) (λ z. omega arith) (rw (same_self (index_of (records (taken_out place state).table)))) (sym (judged_number_lem q _) ∙ e)
    by (ending iv) e = never_given 22 (end_checks iv state) (λ z. omega arith) (rw fits) (sym (ended_number iv state) ∙ e)
    by making_index e = never_given 22 (remake_checks state) (λ z. omega arith) refl (sym (remade_number state) ∙ e)

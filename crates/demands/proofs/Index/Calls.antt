-- Each call leaves an index that fits the table that it leaves.
-- Assumes nothing.
use mathlib.Core.Path.{◌≡◌, refl, sym, ap, subst, ◌∙◌}
use mathlib.Core.List.{List}
use mathlib.Core.Logic.{◌⊎◌, inl, inr, ⊎_elim}
use mathlib.Core.Bool.{true, false}
use Prim.Native.Nat.{ℕ, ◌*◌, ◌≤◌, ◌<◌, ◌^◌}
use native.Mathlib.Omega.{arith}
use borrow.Author.Tests.{eqb-true, eqb-false}
use lib.Dec.{eqb}
use lib.ListN.{length}
use Rattle.cells.specs.Runs.{spliced}
use Rattle.cells.proofs.Tests.{tested}
use Rattle.cells.proofs.Runs.{length_spliced}
use Rattle.table.specs.declared.session.Record.{Record}
use Rattle.table.specs.Record as R
use Rattle.table.specs.Record.{size, record_bytes, freed}
use Rattle.std.specs.Prelude.{Option, Some, None}
use Rattle.table.specs.Session.{place_of, with_record, without}
use Rattle.table.specs.Table.{places, record_at, records}
use Rattle.table.specs.WellFormed.{WellFormed}
use Rattle.table.proofs.Records.{length_record_bytes, record_of_bytes}
use Rattle.table.proofs.Sessions.{stepped_fits}
use Rattle.stages.specs.Request.{Request}
use Rattle.stages.specs.Parts.{iv_of, nonce_of, ordered, invalidates}
use Rattle.gate.specs.State.{State, holding}
use Rattle.gate.specs.Sizes.{table_fits, state_fits}
use Rattle.stages.specs.Checks.{first}
use Rattle.gate.proofs.Judging.{not_zero}
use Rattle.gate.specs.Judge.{request_checks, judged}
use Rattle.demands.specs.Effects.{Right, TenOrThirteen}
use Rattle.demands.specs.History.{Call, setting_up, judging, judging_one, ending, making_index, taken_out, put_back, judged_at, answer}
use Rattle.demands.proofs.Shared.Answers.{zero_or_not, stepped_for, next, judged_number_lem, judged_table, ordered_table, unordered_table}
use Rattle.demands.proofs.Shared.Checks.{accepted_passes}
use Rattle.demands.proofs.Shared.Others.{passes_finds}
use Rattle.demands.proofs.Shared.Named.{found_session}
use Rattle.demands.proofs.Shared.Stored.{Whole, respliced}
use Rattle.demands.proofs.Shared.TakenOut.{own, put_back_lem}
use Rattle.demands.proofs.Shared.Indexes.{cleared_well, laid_right}
use Rattle.demands.proofs.Untouched as Untouched
use Rattle.demands.proofs.Untouched.Requests.{two_invalidate}
use Rattle.demands.proofs.Untouched.Indexes.{made_all}

right_kept : {before after : State} → after ≡ before → Right before → Right after
right_kept e r = rw e r

-- 0, 10 or 13, or another refusal
three_ways : (n : ℕ) → (n ≡ 0) ⊎ (TenOrThirteen n ⊎ ((1 ≤ n) × (TenOrThirteen n → ⊥)))
three_ways n = ⊎_elim inl (λ o. inr (tested (eqb n 10) (λ t. inl (inl (eqb-true n 10 t))) (λ t. tested (eqb n 13) (λ u. inl (inr (eqb-true n 13 u)))
    (λ u. inr (o, ⊎_elim (eqb-false n 10 t) (eqb-false n 13 u)))))) (zero_or_not n)

-- a record whose window takes a nonce keeps its mark and its IV
next_over : (q : Request) (table index : List ℕ) (place : ℕ) (r : Record) → place < places table → r ≡ record_at table place → R.Fits r → nonce_of q < 2 ^ 32
    → Right (holding table index) → Right (holding (spliced table (size * place) (record_bytes (next (nonce_of q) r))) index)
next_over q table index place r inside is fit small right =
    let f = stepped_fits r (nonce_of q) fit small in
    let back = record_of_bytes (next (nonce_of q) r) f in
    laid_right table index place (record_bytes (next (nonce_of q) r)) inside (length_record_bytes (next (nonce_of q) r) f.iv)
    (ap (λ (x : Record). x.used) back ∙ ap (λ (x : Record). x.used) is) (ap (λ (x : Record). x.iv) back ∙ ap (λ (x : Record). x.iv) is) right

-- an accepted request's table
stepped_is : (q : Request) (state : State) → (judged q state).number ≡ 0 → (judged q state).state.table ≡ stepped_for q state.table
stepped_is q state z = judged_table q state ∙ rw (sym (judged_number_lem q state) ∙ z)

-- leaves the index as it was, and it still fits
accepted_right : (q : Request) (state : State) → Whole state.table → (judged q state).number ≡ 0 → Right state → Right (judged q state).state
accepted_right q state fit z right =
    rw (stepped_is q state z, ((Untouched.judge q state).passed z).index)
    (tested (ordered q)
    (λ t. let f = passes_finds q state (accepted_passes q state (sym (judged_number_lem q state) ∙ z)) in
    let inside = (found_session state.table (iv_of q) f.place f.finds).within in
    rw (ordered_table q state.table f.place f.finds t) (next_over q state.table state.index f.place _ inside refl (fit f.place inside) f.small right))
    (λ t. rw (unordered_table q state.table t) right))

-- a table of the same length has the right size too
sizes_kept : (table after index : List ℕ) → length after ≡ length table → state_fits (holding table index) ≡ true → state_fits (holding after index) ≡ true
unfolding state_fits table_fits
sizes_kept table after index e h = rw e h

module _ (state : State) (fits : state_fits state ≡ true) (fit : Whole state.table) (w : WellFormed (records state.table)) (right : Right state) where
  module _ (place : ℕ) (q : Request) where
    abbrev one : List ℕ
    one = (taken_out place state).table

    abbrev n : ℕ
    n = (judged q (taken_out place state)).number

    -- what the thin entry leaves, put back
    abbrev laid : State
    laid = put_back place state (judged q (taken_out place state)).state

    caught_up_lem : invalidates n ≡ false → (judged_at place q state).state ≡ laid
    caught_up_lem e = rw e

    accepted : n ≡ 0 → Right (judged_at place q state).state
    accepted z =
        right_kept (caught_up_lem (ap invalidates z) ∙ ap (λ (t : List ℕ). holding (spliced state.table (size * place) t) state.index) (stepped_is q (taken_out place state) z))
        (tested (ordered q)
        (λ t. let f = passes_finds q (taken_out place state) (accepted_passes q (taken_out place state) (sym (judged_number_lem q (taken_out place state)) ∙ z)) in
        let mine = own state w place (iv_of q) f.place f.finds in
        let fit_one : R.Fits (record_at one 0) = subst (λ (x : Record). R.Fits x) (sym mine.same_record) (fit place mine.within) in
        rw (ordered_table q one 0 mine.here t, put_back_lem state w place (next (nonce_of q) (record_at one 0)) mine.whole fit_one.iv)
        (next_over q state.table state.index place (record_at one 0) mine.within mine.same_record fit_one f.small right))
        (λ t. rw (unordered_table q one t, respliced state.table (size * place) size) right))

    -- freed: the index is made anew
    left_is : invalidates n ≡ true → (judged q (taken_out place state)).state.table ≡ without one (iv_of q)
    left_is e =
        let e' = ap invalidates (sym (judged_number_lem q (taken_out place state))) ∙ e in
        judged_table q (taken_out place state) ∙ rw (not_zero (first (request_checks q (taken_out place state))) e', e')

    cleared : (p : Option ℕ) → place_of one (iv_of q) ≡ p
        → WellFormed (records (spliced state.table (size * place) (with_record one p freed))) × (length (spliced state.table (size * place) (with_record one p freed)) ≡ length state.table)
    cleared (Some j) e =
        let mine = own state w place (iv_of q) j e in
        rw (ap (λ (p : Option ℕ). spliced state.table (size * place) (with_record one p freed)) (sym e ∙ mine.here) ∙ put_back_lem state w place freed mine.whole refl) (
          cleared_well state.table place mine.within w,
          length_spliced state.table (record_bytes freed) (size * place) (omega (arith, mine.within, length_record_bytes freed refl)),
        )
    cleared None e = rw (respliced state.table (size * place) size) (w, refl)

    freed_right : invalidates n ≡ true → Right (judged_at place q state).state
    unfolding without
    freed_right e =
        let left = left_is e in
        let clear = cleared (place_of one (iv_of q)) refl in
        rw e (made_all laid (sizes_kept state.table laid.table state.index (ap (λ (t : List ℕ). length (spliced state.table (size * place) t)) left ∙ clear.1) fits) (rw left clear.0)).1

    one_right : Right (judged_at place q state).state
    one_right =
        ⊎_elim accepted (⊎_elim (λ two. freed_right (two_invalidate n two)) (λ o. right_kept (Untouched.untouched_else (judging_one place q) state o.0 o.1).state right))
        (three_ways n)

  pub call_right : (call : Call) → Right (answer call state).state
  call_right (setting_up s) =
      let done = Untouched.setup s state in
      ⊎_elim (λ z. (done.passed z).index) (λ o. right_kept (done.refused o).state right) (zero_or_not (answer (setting_up s) state).number)
  call_right (judging q) =
      let done = Untouched.judge q state in
      ⊎_elim (λ z. accepted_right q state fit z right)
      (⊎_elim (λ two. (done.invalidated two).index) (λ o. right_kept (done.refused o.0 o.1).state right)) (three_ways (judged q state).number)
  call_right (judging_one place q) = one_right place q
  call_right (ending iv) =
      let done = Untouched.end iv state in
      ⊎_elim (λ z. (done.passed z).index) (λ o. right_kept (done.refused o) right) (zero_or_not (answer (ending iv) state).number)
  call_right making_index =
      let done = Untouched.remake state in
      ⊎_elim (λ z. (done.passed z).index) (λ o. right_kept (done.refused o) right) (zero_or_not (answer making_index state).number)

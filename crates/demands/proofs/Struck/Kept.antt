-- Every call leaves a table and an index that the next can be lent; and every call but a setup disturbs no session whose IV it does not bear.
-- Assumes nothing.
use mathlib.Core.Path.{◌≡◌, refl, sym, ap, ◌∙◌}
use mathlib.Core.Bool.{Bool, true, false, true≢false, cond}
use mathlib.Core.List.{List}
use mathlib.Core.Logic.{◌⊎◌, inl, inr, ⊎_elim}
use mathlib.Core.Option.{some, none}
use Prim.Native.Nat.{ℕ, ◌*◌, ◌≤◌}
use borrow.Author.Tests.{not-false}
use lib.ListN.{length}
use Rattle.cells.specs.Runs.{same}
use Rattle.cells.proofs.Equality.{same_self}
use Rattle.cells.proofs.Tests.{both}
use Rattle.table.specs.declared.session.Record.{Record}
use Rattle.table.specs.Table.{places, records}
use Rattle.table.specs.Session.{place_of}
use Rattle.table.specs.WellFormed.{WellFormed}
use Rattle.table.proofs.Sessions.{begun_fits, record_at_fits}
use Rattle.armor.specs.Fields.{request_fields}
use Rattle.stages.specs.Request.{Request}
use Rattle.stages.specs.Checks.{first}
use Rattle.stages.specs.Parts.{fields_of, iv_of, reading_part, covering_part}
use Rattle.stages.proofs.Checks.{passed_at}
use Rattle.stages.proofs.Parts.{reading_numbered}
use Rattle.gate.specs.Calls.{Setup}
use Rattle.gate.specs.State.{State}
use Rattle.gate.specs.Setup.{chosen_of, expiry_of, set_up}
use Rattle.gate.specs.Sizes.{exactly, table_fits, state_fits}
use Rattle.gate.specs.Entry.{state_checks, entry_checks}
use Rattle.gate.specs.Judge.{entry_part, judged}
use Rattle.demands.specs.Effects.{Right, TenOrThirteen}
use Rattle.demands.specs.History.{Call, setting_up, judging, judging_one, ending, making_index, taken_out, answer}
use Rattle.demands.specs.Struck.{Lendable, legible, passes, bears, session_in}
use Rattle.demands.proofs.Shared.Checks.{accepted_passes, read_through}
use Rattle.demands.proofs.Shared.Answers.{zero_or_not, set_up_number, set_up_table, judged_number_lem, remade_table}
use Rattle.demands.proofs.Shared.Passed.{setup_takes}
use Rattle.demands.proofs.Shared.Others.{parts}
use Rattle.demands.proofs.Shared.Indexes.{right_sized, begun_well}
use Rattle.demands.proofs.Untouched as Untouched
use Rattle.demands.proofs.Shared.Stored.{Whole, replaced_whole}
use Rattle.demands.proofs.Index.Calls.{call_right}
use Rattle.demands.proofs.Struck.Turned.{Undisturbed, Turns}
use Rattle.demands.proofs.Struck.Calls.{judge_turns, one_turns, end_turns}

-- what a table of bytes, well formed, beside the index that fits it, is and stays
pub record Ready (state : State) : Type 0 where
  pub sizes : state_fits state ≡ true
  pub whole : Whole state.table
  pub well : WellFormed (records state.table)
  pub index : Right state

pub ready : (state : State) → Lendable state → Ready state
ready state l = record { sizes = l.sizes; whole = λ i h. record_at_fits state.table i h l.bytes; well = l.well; index = l.index }

-- a call is no setup
abbrev pub NoSetup : Call → Type 0
NoSetup (setting_up s) = ⊥
NoSetup (judging q) = Unit
NoSetup (judging_one place q) = Unit
NoSetup (ending iv) = Unit
NoSetup making_index = Unit

-- a table of the same length beside its index
sizes_left : (before after : State) → length after.table ≡ length before.table → Right after → state_fits before ≡ true → state_fits after ≡ true
unfolding state_fits table_fits
sizes_left before after long right fits =
    rw (right_sized after right, long)
    (rw (both (table_fits before.table) (exactly (2 * places before.table) before.index) fits).0 refl)

-- a request that is not legible is refused before its session is looked for, and changes nothing
pub read_legible : (q : Request) → first (reading_part q) ≡ 0 → legible q ≡ true
unfolding reading_part
read_legible q e =
    let past = passed_at (reading_part q) (reading_numbered q) e in
    rw (past 4, not-false (request_fields (fields_of q)) (past 5)) refl

module _ (q : Request) (state : State) where
  zero_legible : (judged q state).number ≡ 0 → legible q ≡ true
  zero_legible e = read_legible q (parts q state (accepted_passes q state (sym (judged_number_lem q state) ∙ e))).reading

  two_legible : TenOrThirteen (judged q state).number → legible q ≡ true
  unfolding entry_part reading_part covering_part entry_checks state_checks
  two_legible (inl e) = read_legible q (read_through q state 10 refl refl (sym (judged_number_lem q state) ∙ e)).reading
  two_legible (inr e) = read_legible q (read_through q state 13 refl refl (sym (judged_number_lem q state) ∙ e)).reading

  illegible : legible q ≡ false → (1 ≤ (judged q state).number) × (TenOrThirteen (judged q state).number → ⊥)
  illegible e = (
    ⊎_elim (λ z. absurd (true≢false (sym (zero_legible z) ∙ e))) (λ o. o) (zero_or_not (judged q state).number),
    λ two. true≢false (sym (two_legible two) ∙ e),
  )

-- what a request does not bear: it carries another, or is not legible
unborne : (q : Request) (iv : List ℕ) → passes (λ other. same other iv) (cond (legible q) (some (iv_of q)) none) ≡ false → (iv_of q ≡ iv → ⊥) ⊎ (legible q ≡ false)
unborne q iv = by (legible q) refl
  where
    by : (t : Bool) → legible q ≡ t → passes (λ other. same other iv) (cond t (some (iv_of q)) none) ≡ false → (iv_of q ≡ iv → ⊥) ⊎ (legible q ≡ false)
    by true e f = inl (λ is. true≢false (sym (rw is (same_self iv)) ∙ f))
    by false e f = inr e

module _ (state : State) (ready : Ready state) where
  -- as far as the table goes
  record Left (after : List ℕ) : Type 0 where
    long : length after ≡ length state.table
    well : WellFormed (records after)
    whole : Whole after

  turned_left : {iv after : List ℕ} {turn : Record → Record} → Turns iv turn state.table after → Left after
  turned_left t = record { long = t.long; well = t.well; whole = t.whole }

  left_so : {after : List ℕ} → after ≡ state.table → Left after
  left_so e = rw e (record { long = refl; well = ready.well; whole = ready.whole })

  set_up_left : (s : Setup) → (set_up s state).number ≡ 0 → Left (set_up s state).state.table
  set_up_left s z =
      let e = sym (set_up_number s state) ∙ z in
      let t = setup_takes s state e in
      let begun = (Untouched.setup s state).passed z in
      record {
        long = begun.session.as_long;
        well = rw (set_up_table s state, e) (begun_well s state t ready.well);
        whole = replaced_whole begun.session (begun_fits s.iv (expiry_of s) (chosen_of s) t.long t.small) ready.whole;
      }

  left : (call : Call) → Left (answer call state).state.table
  left (setting_up s) =
      ⊎_elim (set_up_left s) (λ o. left_so (ap (λ (after : State). after.table) ((Untouched.setup s state).refused o).state)) (zero_or_not (set_up s state).number)
  left (judging q) = turned_left (judge_turns q state ready.well ready.whole)
  left (judging_one place q) = turned_left (one_turns place q state ready.well ready.whole)
  left (ending iv) = turned_left (end_turns iv state ready.well ready.whole)
  left making_index = left_so (remade_table state)

  pub ready_left : (call : Call) → Ready (answer call state).state
  ready_left call =
      let l = left call in
      let right = call_right state ready.sizes ready.whole ready.well ready.index call in
      record { sizes = sizes_left state (answer call state).state l.long right ready.sizes; whole = l.whole; well = l.well; index = right }

  untouched_so : {iv : List ℕ} {after : State} → after ≡ state → Undisturbed iv state.table after.table
  untouched_so {iv} e = record { long = ap (λ (s : State). length s.table) e; place = ap (λ (s : State). place_of s.table iv) e; session = ap (λ (s : State). session_in iv s.table) e }

  pub undisturbed : (iv : List ℕ) (call : Call) → NoSetup call → bears iv call ≡ false → Undisturbed iv state.table (answer call state).state.table
  undisturbed iv (setting_up s) later e = absurd later
  undisturbed iv (judging q) later e =
      ⊎_elim (λ apart. (judge_turns q state ready.well ready.whole).others iv (λ is. apart (sym is)))
      (λ t. let refused = illegible q state t in untouched_so (Untouched.untouched_else (judging q) state refused.0 refused.1).state) (unborne q iv e)
  undisturbed iv (judging_one place q) later e =
      ⊎_elim (λ apart. (one_turns place q state ready.well ready.whole).others iv (λ is. apart (sym is)))
      (λ t. let refused = illegible q (taken_out place state) t in untouched_so (Untouched.untouched_else (judging_one place q) state refused.0 refused.1).state) (unborne q iv e)
  undisturbed iv (ending other) later e =
      (end_turns other state ready.well ready.whole).others iv (λ is. true≢false (sym (rw is (same_self other)) ∙ e))
  undisturbed iv making_index later e = rw (remade_table state) (record { long = refl; place = refl; session = refl })

-- Each call leaves a table whose sessions are those of the history with it.
-- Assumes nothing.
use mathlib.Core.Path.{◌≡◌, refl, sym, ap, subst, ◌∙◌}
use mathlib.Core.Bool.{Bool, true, false, cond, ◌&&◌}
use mathlib.Core.List.{List, ◌∷◌}
use mathlib.Core.Option.{Option, some}
use Prim.Native.Nat.{ℕ}
use borrow.Author.Tests.{eqb-true}
use lib.Dec.{eqb}
use lib.ListN.{get_or}
use Rattle.cells.specs.Runs.{same}
use Rattle.hashes.specs.declared.Hash.{Hash}
use Rattle.hashes.specs.Hashes.{hash_mask}
use Rattle.window.specs.Window.{step_of}
use Rattle.window.specs.History.{keep}
use Rattle.table.specs.declared.session.Record.{Record}
use Rattle.table.specs.Record.{freed, begun, window_of}
use Rattle.table.specs.Table.{records, record_at}
use Rattle.table.proofs.Found.{found_at, taken_at}
use Rattle.table.proofs.Sessions.{begun_fits, stepped_fits}
use Rattle.signed.specs.SignedText.{orders_nonce}
use Rattle.gate.specs.Calls.{Setup}
use Rattle.stages.specs.Request.{Request}
use Rattle.stages.specs.Checks.{first}
use Rattle.table.specs.Session.{without}
use Rattle.gate.specs.State.{State}
use Rattle.gate.specs.Setup.{chosen_of, expiry_of, setup_checks, with_session, set_up}
use Rattle.stages.specs.Parts.{iv_of, nonce_of, stepped, invalidates}
use Rattle.gate.specs.Judge.{request_checks, judged}
use Rattle.gate.specs.End.{end_checks, ended}
use Rattle.demands.specs.History.{Call, setting_up, judging, judging_one, ending, making_index, answer, with_accepted, with_set_up, with_chosen}
use Rattle.demands.proofs.Shared.Checks.{accepted_passes}
use Rattle.demands.proofs.Shared.Answers.{stepped_for, set_up_number, set_up_table, begun_table, ended_table, remade_table, next, judged_number_lem, judged_table, found_step, ordered_table, unordered_table}
use Rattle.demands.proofs.Shared.Passed.{Takes, setup_takes}
use Rattle.demands.proofs.Shared.Others.{Finds, passes_finds, accepted_step}
use Rattle.demands.proofs.History.Sessions.{begun_sessions, stepped_sessions}
use Rattle.demands.proofs.History.One.{one_standing}
use Rattle.demands.proofs.History.Tables.{Standing, held, stored_standing, without_standing}

module _ (n : ℕ) (state : State) (ivs : List (List ℕ)) (nonces : List ℕ → List ℕ) (hashes : List ℕ → Option Hash) (st : Standing n state.table ivs nonces hashes) where
  -- a setup that is answered 0
  setup_done : (s : Setup) → Takes s state → Standing n (with_session s state.table) (s.iv ∷ ivs) nonces (λ iv. cond (same s.iv iv) (some (chosen_of s)) (hashes iv))
  setup_done s t =
      let h = (taken_at (records state.table) s.clock t.place t.takes).0 in
      rw (begun_table s state.table t.place t.takes)
      (stored_standing n state.table ivs nonces hashes st t.place (begun s.iv (expiry_of s) (hash_mask (chosen_of s))) h (begun_fits s.iv (expiry_of s) (chosen_of s) t.long t.small)
      (begun_sessions (records state.table) ivs nonces hashes st.sessions t.place s.iv (expiry_of s) (chosen_of s) h t.unused t.long t.small))

  setup_standing : (s : Setup) → Standing n (set_up s state).state.table (with_set_up (setting_up s) (set_up s state).number ivs) nonces
      (λ iv. with_chosen iv (setting_up s) (set_up s state).number (hashes iv))
  setup_standing s = rw (set_up_table s state, set_up_number s state) (by (eqb (first (setup_checks s state)) 0) refl)
    where
      by : (t : Bool) → eqb (first (setup_checks s state)) 0 ≡ t
          → Standing n (cond t (with_session s state.table) state.table) (cond t (s.iv ∷ ivs) ivs) nonces (λ iv. cond (t && same s.iv iv) (some (chosen_of s)) (hashes iv))
      by true e = setup_done s (setup_takes s state (eqb-true _ 0 e))
      by false e = st

  end_standing : (iv : List ℕ) → Standing n (ended iv state).state.table ivs nonces hashes
  end_standing iv = rw (ended_table iv state) (by (eqb (first (end_checks iv state)) 0))
    where
      by : (t : Bool) → Standing n (cond t (without state.table iv) state.table) ivs nonces hashes
      by true = without_standing n state.table ivs nonces hashes st iv
      by false = st

  module _ (q : Request) where
    abbrev old : Finds q state → Record
    old f = get_or (records state.table) f.place freed

    -- the session's record, and the step that its window takes
    held_record : (f : Finds q state) → record_at state.table f.place ≡ old f
    held_record f = held n state.table ivs nonces hashes st f.place (found_at (records state.table) (iv_of q) f.place f.finds).0

    pub held_step : (f : Finds q state) → stepped q state.table ≡ step_of (window_of (old f)) (nonce_of q)
    held_step f = found_step q state.table f.place f.finds ∙ ap (λ (r : Record). step_of (window_of r) (nonce_of q)) (held_record f)

    request_done : (o : Bool) → orders_nonce q.orders.numbers.mask ≡ o → first (request_checks q state) ≡ 0
        → Standing n (stepped_for q state.table) ivs (λ iv. keep (o && same (iv_of q) iv) (nonce_of q) (nonces iv)) hashes
    request_done true o e =
        let f = passes_finds q state (accepted_passes q state e) in
        let h = (found_at (records state.table) (iv_of q) f.place f.finds).0 in
        rw (ordered_table q state.table f.place f.finds o, held_record f)
        (stored_standing n state.table ivs nonces hashes st f.place (next (nonce_of q) (old f)) h (stepped_fits (old f) (nonce_of q) (st.sessions.fit f.place h) f.small)
        (stepped_sessions (records state.table) ivs nonces hashes st.sessions f.place (iv_of q) (nonce_of q) f.finds f.small
        (rw (held_step f) at (accepted_step q state e o))))
    request_done false o e = rw (unordered_table q state.table o) st

  request_standing : (q : Request) → Standing n (judged q state).state.table ivs (λ iv. with_accepted iv (judging q) (judged q state).number (nonces iv)) hashes
  request_standing q =
      subst (λ (k : ℕ). Standing n (judged q state).state.table ivs (λ iv. with_accepted iv (judging q) k (nonces iv)) hashes) (sym (judged_number_lem q state))
      (rw (judged_table q state) (by (eqb (first (request_checks q state)) 0) refl))
    where
      refused : (t : Bool) → Standing n (cond t (without state.table (iv_of q)) state.table) ivs nonces hashes
      refused true = without_standing n state.table ivs nonces hashes st (iv_of q)
      refused false = st

      by : (t : Bool) → eqb (first (request_checks q state)) 0 ≡ t
          → Standing n (cond t (stepped_for q state.table) (cond (invalidates (first (request_checks q state))) (without state.table (iv_of q)) state.table)) ivs
          (λ iv. keep (t && (orders_nonce q.orders.numbers.mask && same (iv_of q) iv)) (nonce_of q) (nonces iv)) hashes
      by true e = request_done q (orders_nonce q.orders.numbers.mask) refl (eqb-true _ 0 e)
      by false e = refused (invalidates (first (request_checks q state)))

  pub call_standing : (call : Call)
      → Standing n (answer call state).state.table (with_set_up call (answer call state).number ivs)
      (λ iv. with_accepted iv call (answer call state).number (nonces iv))
      (λ iv. with_chosen iv call (answer call state).number (hashes iv))
  call_standing (setting_up s) = setup_standing s
  call_standing (judging q) = request_standing q
  call_standing (judging_one place q) = one_standing n state ivs nonces hashes st place q
  call_standing (ending iv) = end_standing iv
  call_standing making_index = rw (remade_table state) st

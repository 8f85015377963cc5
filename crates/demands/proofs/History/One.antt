-- A record that the thin entry is lent out of a table, and the table with what it leaves there.
-- Assumes nothing.
use mathlib.Core.Path.{◌≡◌, refl, sym, subst, ◌∙◌}
use mathlib.Core.Bool.{Bool, true, false, cond, ◌&&◌}
use mathlib.Core.List.{List}
use mathlib.Core.Option.{Option}
use Prim.Native.Nat.{ℕ, ◌*◌, ◌<◌}
use borrow.Author.Tests.{eqb-true}
use lib.Dec.{eqb}
use lib.ListN.{length, get_or, set}
use Rattle.cells.specs.Runs.{spliced, same}
use Rattle.hashes.specs.declared.Hash.{Hash}
use Rattle.window.specs.History.{keep}
use Rattle.table.specs.declared.session.Record.{Record}
use Rattle.std.specs.Prelude.{Option as Maybe, Some, None}
use Rattle.table.specs.Record.{size, record_bytes, Fits, freed}
use Rattle.table.specs.Table.{records, record_at}
use Rattle.table.specs.Session.{place_of, with_record, without}
use Rattle.table.proofs.Records.{length_records, freed_fits}
use Rattle.table.proofs.Sessions.{stepped_fits}
use Rattle.signed.specs.SignedText.{orders_nonce}
use Rattle.stages.specs.Request.{Request}
use Rattle.stages.specs.Checks.{first}
use Rattle.stages.specs.Parts.{iv_of, nonce_of, invalidates}
use Rattle.gate.specs.State.{State}
use Rattle.gate.specs.Judge.{request_checks, judged}
use Rattle.demands.specs.History.{taken_out, judged_at, with_nonce}
use Rattle.demands.proofs.Shared.Checks.{accepted_passes}
use Rattle.demands.proofs.Shared.Answers.{stepped_for, next, judged_number_lem, judged_table, found_step, ordered_table, unordered_table}
use Rattle.demands.proofs.Shared.Stored.{respliced}
use Rattle.demands.proofs.Shared.TakenOut.{caught_table, Own, own, put_back_lem}
use Rattle.demands.proofs.Shared.Others.{passes_finds, accepted_step}
use Rattle.demands.proofs.History.Sessions.{Sessions, freed_sessions, stepped_sessions}
use Rattle.demands.proofs.History.Tables.{Standing, held, stored_standing}

module _ (n : ℕ) (state : State) (ivs : List (List ℕ)) (nonces : List ℕ → List ℕ) (hashes : List ℕ → Option Hash) (st : Standing n state.table ivs nonces hashes) (place : ℕ) where
  abbrev one : List ℕ
  one = (taken_out place state).table

  -- another record laid over the one record, and that one put back
  stored : (iv : List ℕ) (r : Record) {others : List (List ℕ)} {more : List ℕ → List ℕ} {kept : List ℕ → Option Hash} → Own state st.sessions.well place iv → Fits r
      → Sessions (set (records state.table) place r) others more kept
      → Standing n (spliced state.table (size * place) (spliced one (size * 0) (record_bytes r))) others more kept
  stored iv r {others} {more} {kept} o f t =
      subst (λ (l : List ℕ). Standing n l others more kept)
      (sym (put_back_lem state st.sessions.well place r o.whole f.iv))
      (stored_standing n state.table ivs nonces hashes st place r (rw length_records o.within) f t)

  kept : Standing n (spliced state.table (size * place) one) ivs nonces hashes
  kept = subst (λ (l : List ℕ). Standing n l ivs nonces hashes) (sym (respliced state.table (size * place) size)) st

  -- the session's record freed, if it is this one
  freed_one : (iv : List ℕ) → Standing n (spliced state.table (size * place) (without one iv)) ivs nonces hashes
  unfolding without
  freed_one iv = by (place_of one iv) refl
    where
      by : (p : Maybe ℕ) → place_of one iv ≡ p → Standing n (spliced state.table (size * place) (with_record one p freed)) ivs nonces hashes
      by (Some j) e =
          let o = own state st.sessions.well place iv j e in
          subst (λ (p : Maybe ℕ). Standing n (spliced state.table (size * place) (with_record one p freed)) ivs nonces hashes) (sym o.here ∙ e)
          (stored iv freed o freed_fits (freed_sessions (records state.table) ivs nonces hashes st.sessions place (rw length_records o.within)))
      by None e = kept

  module _ (q : Request) where
    -- a nonce taken
    stepped_one : (o : Bool) → orders_nonce q.orders.numbers.mask ≡ o → first (request_checks q (taken_out place state)) ≡ 0
        → Standing n (spliced state.table (size * place) (stepped_for q one)) ivs (λ iv. keep (o && same (iv_of q) iv) (nonce_of q) (nonces iv)) hashes
    stepped_one true o e =
        let f = passes_finds q (taken_out place state) (accepted_passes q (taken_out place state) e) in
        let mine = own state st.sessions.well place (iv_of q) f.place f.finds in
        let inside : place < length (records state.table) = rw length_records mine.within in
        let old : record_at one 0 ≡ get_or (records state.table) place freed = mine.same_record ∙ held n state.table ivs nonces hashes st place inside in
        rw (ordered_table q one 0 mine.here o, old)
        (stored (iv_of q) (next (nonce_of q) (get_or (records state.table) place freed)) mine
        (stepped_fits (get_or (records state.table) place freed) (nonce_of q) (st.sessions.fit place inside) f.small)
        (stepped_sessions (records state.table) ivs nonces hashes st.sessions place (iv_of q) (nonce_of q) mine.there f.small
        (rw (found_step q one 0 mine.here, old) at (accepted_step q (taken_out place state) e o))))
    stepped_one false o e = rw (unordered_table q one o) kept

    pub one_standing : Standing n (judged_at place q state).state.table ivs (λ iv. with_nonce iv q (judged_at place q state).number (nonces iv)) hashes
    one_standing =
        subst (λ (t : List ℕ). Standing n t ivs (λ iv. with_nonce iv q (judged_at place q state).number (nonces iv)) hashes) (sym (caught_table (judged q (taken_out place state)).number _))
        (subst (λ (k : ℕ). Standing n (spliced state.table (size * place) (judged q (taken_out place state)).state.table) ivs (λ iv. with_nonce iv q k (nonces iv)) hashes) (sym (judged_number_lem q (taken_out place state)))
        (rw (judged_table q (taken_out place state)) (by (eqb (first (request_checks q (taken_out place state))) 0) refl)))
      where
        refused : (t : Bool) → Standing n (spliced state.table (size * place) (cond t (without one (iv_of q)) one)) ivs nonces hashes
        refused true = freed_one (iv_of q)
        refused false = kept

        by : (t : Bool) → eqb (first (request_checks q (taken_out place state))) 0 ≡ t
            → Standing n (spliced state.table (size * place) (cond t (stepped_for q one) (cond (invalidates (first (request_checks q (taken_out place state)))) (without one (iv_of q)) one))) ivs
            (λ iv. keep (t && (orders_nonce q.orders.numbers.mask && same (iv_of q) iv)) (nonce_of q) (nonces iv)) hashes
        by true e = stepped_one (orders_nonce q.orders.numbers.mask) refl (eqb-true _ 0 e)
        by false e = refused (invalidates (first (request_checks q (taken_out place state))))

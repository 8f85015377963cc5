-- A client's request, made from the reply to its setup, on any table that calls may be lent: its session's record decides.
-- Assumes nothing.
use mathlib.Core.Path.{◌≡◌, refl, ap, ◌∙◌}
use mathlib.Core.Bool.{true, not}
use mathlib.Core.List.{List}
use mathlib.Core.Option.{some}
use Prim.Native.Nat.{ℕ}
use borrow.Author.Tests.{eq-eqb}
use Rattle.cells.proofs.Tests.{both}
use Rattle.hashes.specs.Hashes.{hash_mask}
use Rattle.window.specs.Window.{number_of, step_of}
use Rattle.table.specs.declared.session.Record.{Record}
use Rattle.table.specs.Record.{freed, window_of}
use Rattle.table.specs.Table.{is_used}
use Rattle.table.specs.Session.{place_of}
use Rattle.table.proofs.Meaning.{is_well_formed}
use Rattle.signed.specs.SignedText.{orders_nonce}
use Rattle.stages.specs.Request.{Request}
use Rattle.stages.specs.Checks.{first, nowhere}
use Rattle.stages.specs.Parts.{iv_of, hash_of, nonce_of, stepped, keeps_hash, session_part, admitting_part}
use Rattle.stages.proofs.Checks.{passed_at}
use Rattle.stages.proofs.Parts.{session_numbered}
use Rattle.gate.specs.State.{State}
use Rattle.gate.specs.Calls.{Setup}
use Rattle.gate.specs.Setup.{chosen_of, set_up}
use Rattle.gate.specs.Sizes.{state_fits, lent_fits, request_fits}
use Rattle.gate.specs.Entry.{state_checks, entry_checks}
use Rattle.gate.specs.Judge.{entry_part, request_checks, judged}
use Rattle.gate.proofs.Numbers.{entry_passed}
use Rattle.demands.specs.Passing.{PassesOthers}
use Rattle.demands.specs.History.{judging}
use Rattle.demands.specs.Client.{Message, client_request, LentBytes, Fair}
use Rattle.demands.specs.Struck.{borne, session_in}
use Rattle.demands.proofs.Shared.Checks.{vouched_decides}
use Rattle.demands.proofs.Shared.Answers.{judged_number_lem}
use Rattle.demands.proofs.Shared.Others.{Parts, parts, passes_window}
use Rattle.demands.proofs.Client.{client_passes, client_nonce, client_bears}
use Rattle.demands.proofs.Struck.Kept.{Ready, read_legible}
use Rattle.demands.proofs.Shared.Indexes.{right_same}
use Rattle.demands.proofs.Struck.Compared.{unused}

module _ (s : Setup) (before : State) (m : Message) (clock : ℕ) (reply : List ℕ) (lent_bytes : LentBytes s) (done : (set_up s before).number ≡ 0)
    (fair : Fair s m clock reply) where
  abbrev q : Request
  q = client_request s m clock reply

  at_home : Parts q (set_up s before).state
  at_home = parts q _ (client_passes s before m clock reply lent_bytes done fair).0

  pub iv_is : iv_of q ≡ s.iv
  iv_is = (client_bears s before m clock reply lent_bytes done fair).iv

  -- it bears its session's IV
  pub borne_is : borne (judging q) ≡ some s.iv
  borne_is = rw (read_legible q at_home.reading) (ap some iv_is)

  hash_is : hash_of q ≡ chosen_of s
  hash_is = (client_bears s before m clock reply lent_bytes done fair).hash

  module _ (state : State) (ready : Ready state) where
    entered : first (entry_part q state) ≡ 0
    unfolding entry_part entry_checks state_checks request_fits
    entered =
        let home = entry_passed _ _ _ at_home.entry in
        rw ((both (lent_fits q) (state_fits (set_up s before).state) home.sizes).0, ready.sizes, home.orders, is_well_formed _ ready.well, right_same state ready.index) refl

    found_by : nowhere (place_of state.table (iv_of q)) ≡ not (is_used (session_in s.iv state.table))
    found_by = unused (iv_of q) state.table ∙ ap (λ (iv : List ℕ). not (is_used (session_in iv state.table))) iv_is

    -- without one it is 12
    pub unknown : session_in s.iv state.table ≡ freed → (judged q state).number ≡ 12
    unfolding request_checks session_part
    unknown none =
        judged_number_lem q state ∙ vouched_decides q state (admitting_part q state.table) entered at_home.reading at_home.vouching
        ∙ rw (found_by ∙ ap (λ (r : Record). not (is_used r)) none) refl

    module _ (r : Record) (is : session_in s.iv state.table ≡ r) (used : r.used ≡ 1) (hash : r.hash ≡ hash_mask (chosen_of s)) where
      session_none : first (session_part q state.table) ≡ 0
      unfolding session_part keeps_hash
      session_none =
          let past = passed_at (session_part q (set_up s before).state.table) (session_numbered q (set_up s before).state.table) at_home.session in
          rw (
            found_by ∙ ap (λ (x : Record). not (is_used x)) is ∙ ap not (eq-eqb r.used 1 used),
            ap (λ (iv : List ℕ). (session_in iv state.table).hash) iv_is ∙ ap (λ (x : Record). x.hash) is ∙ hash,
            hash_is,
            eq-eqb (hash_mask (chosen_of s)) (hash_mask (chosen_of s)) refl,
            past 13,
            past 14,
            past 21,
          ) refl

      passes : PassesOthers q state
      passes = vouched_decides q state (session_part q state.table) entered at_home.reading at_home.vouching ∙ session_none

      -- with one its window says
      pub served : orders_nonce s.orders.numbers.mask ≡ true → (judged q state).number ≡ number_of (step_of (window_of r) m.nonce).verdict
      unfolding stepped client_request
      served ordered =
          judged_number_lem q state ∙ passes_window q state passes ordered
          ∙ ap (λ (x : Record). number_of (step_of (window_of x) (nonce_of q)).verdict) (ap (λ (iv : List ℕ). session_in iv state.table) iv_is ∙ is)
          ∙ ap (λ (n : ℕ). number_of (step_of (window_of r) n).verdict) (client_nonce s before m clock reply lent_bytes done fair ordered)

-- Document 02, K2: "A request's h must equal the record's, so nobody can talk a session down." After any calls on a table that began empty,
-- a request that is accepted has the hash that its session's setup chose, whether the table or the record alone was lent; and that is
-- the longest hash that both sides had.
-- Assumes nothing.
use mathlib.Core.Path.{◌≡◌, sym, ap, ◌∙◌}
use mathlib.Core.List.{List}
use mathlib.Core.Option.{Option, none, some}
use Prim.Native.Nat.{ℕ}
use borrow.Author.Tests.{eqb-true, not-false, ne_eqb}
use lib.ListN.{get_or}
use Rattle.hashes.specs.declared.Hash.{Hash}
use Rattle.hashes.specs.Hashes.{hash_mask}
use Rattle.hashes.proofs.Hashes.{mask_tells}
use Rattle.table.specs.declared.session.Record.{Record}
use Rattle.std.specs.Prelude.{Some}
use Rattle.table.specs.Record.{freed}
use Rattle.table.specs.Table.{records, record_at}
use Rattle.table.specs.Session.{place_of, held_at}
use Rattle.table.proofs.Found.{found_at}
use Rattle.gate.specs.State.{State}
use Rattle.gate.specs.Judge.{entry_part, request_checks, judged}
use Rattle.stages.specs.Request.{Request}
use Rattle.stages.specs.Checks.{first}
use Rattle.stages.specs.Parts.{iv_of, hash_of, keeps_hash, reading_part, vouching_part, session_part, admitting_part}
use Rattle.stages.proofs.Checks.{passed_at}
use Rattle.stages.proofs.Parts.{session_numbered}
use Rattle.demands.specs.History.{Call, taken_out, judged_at, empty, after, chosen_in}
use Rattle.demands.proofs.Shared.Checks.{accepted_passes, vouched_decides}
use Rattle.demands.proofs.Shared.Answers.{judged_number_lem}
use Rattle.demands.proofs.Shared.Others.{passes_finds, parts}
use Rattle.demands.proofs.Shared.TakenOut.{own}
use Rattle.demands.proofs.History.{standing}
use Rattle.demands.proofs.History.Sessions.{KeptBy}
use Rattle.demands.proofs.History.Tables.{held}

-- the record of an accepted request's session keeps the request's hash
kept : (q : Request) (state : State) (place : ℕ) → first (request_checks q state) ≡ 0 → place_of state.table (iv_of q) ≡ Some place
    → (record_at state.table place).hash ≡ hash_mask (hash_of q)
unfolding session_part keeps_hash
kept q state place e at =
    let session = (parts q state (accepted_passes q state e)).session in
    let same = eqb-true _ _ (not-false _ (passed_at (session_part q state.table) (session_numbered q state.table) session 8)) in
    sym (ap (λ p. (held_at state.table p).hash) at) ∙ same

-- and so does what the history says of it
by_record : (chosen : Option Hash) (byte : ℕ) (h : Hash) → KeptBy byte chosen → byte ≡ hash_mask h → chosen ≡ some h
by_record (some g) byte h k e = ap some (mask_tells g h (sym k ∙ e))
by_record none byte h k e = elim k [ ]

module _ (n : ℕ) (calls : List Call) (q : Request) where
  abbrev now : State
  now = after (empty n) calls

  recorded : (place : ℕ) → place_of now.table (iv_of q) ≡ Some place → (record_at now.table place).hash ≡ hash_mask (hash_of q)
      → chosen_in (iv_of q) (empty n) calls ≡ some (hash_of q)
  recorded place at keeps =
      let st = standing n calls in
      let inside = (found_at (records now.table) (iv_of q) place at).0 in
      by_record _ (get_or (records now.table) place freed).hash (hash_of q) (st.sessions.keeps (iv_of q) place at)
      (sym (ap (λ (r : Record). r.hash) (held n now.table _ _ _ st place inside)) ∙ keeps)

  pub as_chosen : (judged q now).number ≡ 0 → chosen_in (iv_of q) (empty n) calls ≡ some (hash_of q)
  as_chosen e =
      let zero = sym (judged_number_lem q now) ∙ e in
      let f = passes_finds q now (accepted_passes q now zero) in
      recorded f.place f.finds (kept q now f.place zero f.finds)

  pub as_chosen_one : (place : ℕ) → (judged_at place q now).number ≡ 0 → chosen_in (iv_of q) (empty n) calls ≡ some (hash_of q)
  as_chosen_one place e =
      let one = taken_out place now in
      let zero = sym (judged_number_lem q one) ∙ e in
      let f = passes_finds q one (accepted_passes q one zero) in
      let mine = own now (standing n calls).sessions.well place (iv_of q) f.place f.finds in
      recorded place mine.there (sym (ap (λ (r : Record). r.hash) mine.same_record) ∙ kept q one 0 zero mine.here)

-- a request with another hash than its session's is 8, though its token and its signature are right
pub talked_down : (q : Request) (state : State) (place : ℕ) → first (entry_part q state) ≡ 0 → first (reading_part q) ≡ 0 → first (vouching_part q) ≡ 0
    → place_of state.table (iv_of q) ≡ Some place → ((record_at state.table place).hash ≡ hash_mask (hash_of q) → ⊥) → (judged q state).number ≡ 8
unfolding request_checks session_part keeps_hash
talked_down q state place entry reading vouching at other =
    judged_number_lem q state
    ∙ vouched_decides q state (admitting_part q state.table) entry reading vouching
    ∙ rw (at, ne_eqb (record_at state.table place).hash (hash_mask (hash_of q)) other)

-- The number and the table that each call answers: the number is that of its checks, and the table follows from the number.
-- Assumes nothing.
use mathlib.Core.Path.{◌≡◌, refl, sym, ap, ◌∙◌}
use mathlib.Core.Bool.{Bool, true, false, cond}
use mathlib.Core.Logic.{◌⊎◌, inl, inr}
use mathlib.Core.List.{List, []}
use Prim.Native.Nat.{ℕ, ◌*◌, ◌≤◌}
use native.Mathlib.Omega.{arith}
use borrow.Author.Tests.{eqb-true, eqb-false}
use lib.Dec.{eqb}
use lib.ListN.{length, drop}
use lib.Seq.{take-append_seam, drop-append_seam}
use Rattle.cells.specs.Runs.{spliced, fronted}
use Rattle.cells.proofs.Tests.{tested}
use Rattle.hashes.specs.declared.Hash.{Hash}
use Rattle.hashes.specs.Hashes.{hash_mask}
use Rattle.window.specs.Window.{step_of}
use Rattle.table.specs.declared.session.Record.{Record}
use Rattle.std.specs.Prelude.{Some}
use Rattle.table.specs.Record.{size, record_bytes, begun, window_of, with_window}
use Rattle.table.specs.Table.{records, record_at, taken}
use Rattle.index.specs.Index.{index_of}
use Rattle.reply.specs.Replies.{invalidation}
use Rattle.gate.specs.Calls.{Setup}
use Rattle.stages.specs.Request.{Request}
use Rattle.gate.specs.State.{State, holding, indexed, Outcome, untouched, replied}
use Rattle.stages.specs.Checks.{first}
use Rattle.table.specs.Session.{place_of, with_record, without}
use Rattle.gate.specs.Setup.{chosen_of, expiry_of, setup_checks, reply_of, with_session, set_up}
use Rattle.stages.specs.Parts.{iv_of, nonce_of, ordered, stepped, next_of, invalidates}
use Rattle.gate.specs.Judge.{request_checks, state_after, answered, judged}
use Rattle.gate.specs.End.{end_checks, ended}
use Rattle.gate.specs.Remake.{remake_checks, remade}
use Rattle.demands.specs.Effects.{Replied}

-- by whether a number is 0
pub zero_or_not : (n : ℕ) → (n ≡ 0) ⊎ (1 ≤ n)
zero_or_not n = tested (eqb n 0) (λ t. inl (eqb-true n 0 t)) (λ t. let z = eqb-false n 0 t in inr (omega arith))

-- the number and the table of the outcome that a number picks
number_by : (n : ℕ) (done refused : Outcome) → done.number ≡ 0 → refused.number ≡ n → (t : Bool) → eqb n 0 ≡ t
    → (cond t done refused).number ≡ n
number_by n done refused d r true e = d ∙ sym (eqb-true n 0 e)
number_by n done refused d r false e = r

table_by : (t : Bool) (done refused : Outcome) → (cond t done refused).state.table ≡ cond t done.state.table refused.state.table
table_by true done refused = refl
table_by false done refused = refl

module _ (s : Setup) (state : State) where
  pub set_up_number : (set_up s state).number ≡ first (setup_checks s state)
  unfolding set_up
  set_up_number = number_by (first (setup_checks s state)) _ _ refl refl (eqb (first (setup_checks s state)) 0) refl

  pub set_up_table : (set_up s state).state.table ≡ cond (eqb (first (setup_checks s state)) 0) (with_session s state.table) state.table
  unfolding set_up
  set_up_table = table_by (eqb (first (setup_checks s state)) 0) _ _

-- a setup that is done leaves the index that fits
pub set_up_index : (s : Setup) (state : State) → (set_up s state).number ≡ 0 → (set_up s state).state.index ≡ index_of (records (set_up s state).state.table)
unfolding set_up
set_up_index s state e = by (eqb (first (setup_checks s state)) 0) refl
  where
    by : (t : Bool) → eqb (first (setup_checks s state)) 0 ≡ t
        → (cond t (replied 0 (reply_of s) s.reply (indexed (with_session s state.table))) (untouched (first (setup_checks s state)) s.reply state)).state.index
        ≡ index_of (records (cond t (replied 0 (reply_of s) s.reply (indexed (with_session s state.table))) (untouched (first (setup_checks s state)) s.reply state)).state.table)
    by true z = refl
    by false z = absurd (eqb-false _ 0 z (sym (set_up_number s state) ∙ e))

-- with the place that is taken
pub begun_table : (s : Setup) (table : List ℕ) (place : ℕ) → taken (records table) s.clock ≡ Some place
    → with_session s table ≡ spliced table (size * place) (record_bytes (begun s.iv (expiry_of s) (hash_mask (chosen_of s))))
unfolding with_session
begun_table s table place e = rw e

module _ (iv : List ℕ) (state : State) where
  pub ended_number : (ended iv state).number ≡ first (end_checks iv state)
  unfolding ended
  ended_number = number_by (first (end_checks iv state)) _ _ refl refl (eqb (first (end_checks iv state)) 0) refl

  pub ended_table : (ended iv state).state.table ≡ cond (eqb (first (end_checks iv state)) 0) (without state.table iv) state.table
  unfolding ended
  ended_table = table_by (eqb (first (end_checks iv state)) 0) _ _

module _ (state : State) where
  pub remade_number : (remade state).number ≡ first (remake_checks state)
  unfolding remade
  remade_number = number_by (first (remake_checks state)) _ _ refl refl (eqb (first (remake_checks state)) 0) refl

  -- it leaves the table alone
  pub remade_table : (remade state).state.table ≡ state.table
  unfolding remade
  remade_table = by (eqb (first (remake_checks state)) 0)
    where
      by : (t : Bool) → (cond t (untouched 0 [] (indexed state.table)) (untouched (first (remake_checks state)) [] state)).state.table ≡ state.table
      by true = refl
      by false = refl

-- a record with its window after a nonce
abbrev pub next : ℕ → Record → Record
next nonce r = with_window r (step_of (window_of r) nonce).window

-- the table with the session's next record, where nonces are ordered
abbrev pub stepped_for : Request → List ℕ → List ℕ
stepped_for q table = cond (ordered q) (with_record table (place_of table (iv_of q)) (next_of q table)) table

module _ (n : ℕ) (id key : List ℕ) (hash : Hash) (reply : List ℕ) (after : State) where
  answered_number : (answered n id key hash reply after).number ≡ n
  unfolding answered
  answered_number = by (eqb n 0) refl (invalidates n)
    where
      by : (t : Bool) → eqb n 0 ≡ t → (u : Bool)
          → (cond t (replied 0 id reply after) (cond u (replied n (invalidation hash key) reply after) (untouched n reply after))).number ≡ n
      by true e u = sym (eqb-true n 0 e)
      by false e true = refl
      by false e false = refl

  answered_state : (answered n id key hash reply after).state ≡ after
  unfolding answered
  answered_state = by (eqb n 0) (invalidates n)
    where
      by : (t u : Bool)
          → (cond t (replied 0 id reply after) (cond u (replied n (invalidation hash key) reply after) (untouched n reply after))).state ≡ after
      by true u = refl
      by false true = refl
      by false false = refl

module _ (q : Request) (state : State) where
  pub judged_number_lem : (judged q state).number ≡ first (request_checks q state)
  unfolding judged
  judged_number_lem = answered_number (first (request_checks q state)) _ _ _ _ _

  pub judged_table : (judged q state).state.table
      ≡ cond (eqb (first (request_checks q state)) 0) (stepped_for q state.table)
      (cond (invalidates (first (request_checks q state))) (without state.table (iv_of q)) state.table)
  unfolding judged state_after without
  judged_table =
      ap (λ (s : State). s.table) (answered_state (first (request_checks q state)) _ _ _ _ _)
      ∙ by (eqb (first (request_checks q state)) 0) (ordered q) (invalidates (first (request_checks q state)))
    where
      by : (t o u : Bool)
          → (cond t (cond o (holding (with_record state.table (place_of state.table (iv_of q)) (next_of q state.table)) state.index) state)
          (cond u (indexed (without state.table (iv_of q))) state)).table
          ≡ cond t (cond o (with_record state.table (place_of state.table (iv_of q)) (next_of q state.table)) state.table)
          (cond u (without state.table (iv_of q)) state.table)
      by true true u = refl
      by true false u = refl
      by false o true = refl
      by false o false = refl

-- with the place of the session
module _ (q : Request) (table : List ℕ) (place : ℕ) (e : place_of table (iv_of q) ≡ Some place) where
  pub found_step : stepped q table ≡ step_of (window_of (record_at table place)) (nonce_of q)
  unfolding stepped
  found_step = rw e

  pub ordered_table : ordered q ≡ true → stepped_for q table ≡ spliced table (size * place) (record_bytes (next (nonce_of q) (record_at table place)))
  unfolding next_of
  ordered_table o = rw (o, found_step, e)

pub unordered_table : (q : Request) (table : List ℕ) → ordered q ≡ false → stepped_for q table ≡ table
unordered_table q table o = rw o

-- as the definitions put it
pub fronted_replied : (n : ℕ) (text buffer : List ℕ) (state : State) → Replied text buffer (replied n text buffer state)
unfolding fronted
fronted_replied n text buffer state = record {
  long = refl;
  front = take-append_seam text (drop (length text) buffer);
  rest = drop-append_seam text (drop (length text) buffer);
}

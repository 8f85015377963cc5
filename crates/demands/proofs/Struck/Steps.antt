-- Two sessions on one table, call by call: each call's number, and the records of both after it.
-- Assumes nothing.
use mathlib.Core.Path.{◌≡◌, refl, sym, ap, ap₂, subst, ◌∙◌}
use mathlib.Core.Bool.{true≢false, cond, not}
use mathlib.Core.List.{List, ◌++◌}
use mathlib.Core.Option.{some}
use Prim.Native.Nat.{ℕ, ◌<◌, ◌^◌}
use native.Mathlib.Omega.{arith}
use borrow.Author.Tests.{eq-eqb}
use lib.ListN.{length, replicate}
use Rattle.cells.specs.Runs.{Bytes, same, spliced}
use Rattle.cells.specs.Numbers.{bytes_of, number}
use Rattle.cells.specs.Text.{codes}
use Rattle.cells.proofs.Numbers.{bytes_bytes_of}
use Rattle.cells.proofs.Equality.{same_self}
use Rattle.hashes.specs.Hashes.{in_common}
use Rattle.hashes.specs.Hashes as Hashes
use Rattle.base_64.specs.Alphabet.{counted, alphabet, place_in, six_bits}
use Rattle.base_64.specs.Decoding as Decoding
use Rattle.base_64.specs.Decoding.{coded, full, two, one, decoded}
use Rattle.armor.specs.Numerals.{plain, is_numeral, is_mask, mask_of}
use Rattle.armor.specs.Keys.{obeys, keys, rank_of, key_number, rule_at, rule_of}
use Rattle.armor.specs.Pieces
use Rattle.armor.specs.Value
use Rattle.armor.specs.Fields.{contents, times, the, setup_fields}
use Rattle.names.specs.Extra.{extra_names, good_names, good_extra}
use Rattle.orders.specs.Orders.{orders_good, limits_of}
use Rattle.window.specs.Window.{number_of, step_of}
use Rattle.table.specs.declared.session.Record.{Record}
use Rattle.table.specs.Record.{record_bytes, record_of, freed, begun, window_of}
use Rattle.std.specs.Prelude.{Option, Some}
use Rattle.table.specs.Session.{place_of, held_at}
use Rattle.table.specs.Table.{records, is_used, found, taken}
use Rattle.table.specs.WellFormed.{sound, fitting, well_formed}
use Rattle.table.proofs.Meaning.{well_formed_is, is_well_formed}
use Rattle.index.specs.Index as Index
use Rattle.index.proofs.Held.{fits_one}
use Rattle.stages.specs.Request.{Request}
use Rattle.stages.specs.Checks.{nowhere}
use Rattle.stages.specs.Parts.{iv_of}
use Rattle.gate.specs.Judge.{judged}
use Rattle.gate.specs.End.{end_checks, ended}
use Rattle.gate.specs.Calls.{Setup, setup_of}
use Rattle.gate.specs.State.{State, indexed}
use Rattle.gate.specs.Sizes.{table_fits, state_fits, setup_fits, end_fits}
use Rattle.gate.specs.Entry.{state_checks, entry_checks}
use Rattle.gate.specs.Setup as S
use Rattle.gate.specs.Setup.{offered, chosen_of, expiry_of, offer_part, lasting_part, room_part, setup_checks, with_session, set_up}
use Rattle.demands.specs.History.{judging, judging_one, ending, taken_out, judged_at, empty}
use Rattle.demands.specs.Client.{client_request, LentBytes, Fair}
use Rattle.demands.specs.Struck.{Lendable, borne, session_in}
use Rattle.demands.proofs.Witnesses.{ordering, zeros, offer, saying, fairly}
use Rattle.demands.proofs.Client.{client_nonce}
use Rattle.demands.proofs.Shared.Answers.{next, ended_number}
use Rattle.demands.proofs.Shared.Indexes.{right_same}
use Rattle.demands.proofs.Shared.TakenOut.{Own, lent}
use Rattle.demands.proofs.Struck.Calls.{turned, turned_at, judge_turns, one_turns, end_turns}
use Rattle.demands.proofs.Struck.Kept.{Ready, ready, ready_left}
use Rattle.demands.proofs.Struck.One.{one_ready}
use Rattle.demands.proofs.Struck.Compared.{unused}
use Rattle.demands.proofs.Struck.Served.{iv_is, borne_is, unknown, served}

-- the IVs of two sessions, and their setups at 0 with nonces ordered
abbrev pub ours : List ℕ
ours = zeros 12

abbrev pub theirs : List ℕ
theirs = replicate 12 1

abbrev pub setting : List ℕ → Setup
setting iv = setup_of (ordering 3) 0 (zeros 32) (zeros 32) iv (zeros 1) offer (zeros 1024)

-- the record of a session with SHA-512 that took no nonce yet, and the table after both setups
abbrev pub new : List ℕ → Record
new iv = begun iv 1209600 4

abbrev pub both_sessions : State
both_sessions = indexed (record_bytes (new ours) ++ record_bytes (new theirs))

pub record SetUp : Type 0 where
  pub first : (set_up (setting ours) (empty 2)).number ≡ 0
  pub second : (set_up (setting theirs) (set_up (setting ours) (empty 2)).state).number ≡ 0
  pub left : (set_up (setting theirs) (set_up (setting ours) (empty 2)).state).state ≡ both_sessions

pub set_up_lem : SetUp
unfolding set_up setup_checks S.entry_part offer_part lasting_part room_part entry_checks state_checks setup_fits state_fits table_fits Index.index_of Index.ranked_to Index.among Index.precedes Index.coded orders_good good_extra extra_names good_names well_formed fitting sound same records record_of record_bytes bytes_of number codes Value.grammar Value.fields_in Value.field_of Value.piece_good Value.text_obeys Value.carried Pieces.pieces Pieces.up_to Pieces.after decoded full two one Decoding.ending coded six_bits place_in alphabet counted obeys rule_of rule_at key_number rank_of keys is_mask is_numeral plain setup_fields times contents offered in_common the mask_of expiry_of limits_of found taken with_session spliced chosen_of Hashes.chosen
set_up_lem = record { first = refl; second = refl; left = refl }

-- it is a table that calls may be lent
pub lendable : Lendable both_sessions
unfolding state_fits table_fits Index.index_of Index.ranked_to Index.among Index.precedes Index.coded well_formed fitting sound same records record_of record_bytes bytes_of number
lendable =
    let well = well_formed_is (records both_sessions.table) refl in
    record {
      sizes = refl;
      bytes = bytes_bytes_of 62 (number both_sessions.table);
      well = well;
      index = fits_one (records both_sessions.table) well;
    }

-- the request that a session's client makes at 100 with this nonce
abbrev pub sent : List ℕ → ℕ → Request
sent iv n = client_request (setting iv) (saying n) 100 (zeros 1024)

fair : (iv : List ℕ) (n : ℕ) → n < 2 ^ 32 → Fair (setting iv) (saying n) 100 (zeros 1024)
unfolding expiry_of limits_of
fair iv n small = fairly (setting iv) n 100 small (omega arith) (omega arith) (omega arith) (omega arith)

lent_bytes : (iv : List ℕ) → Bytes iv → LentBytes (setting iv)
unfolding bytes_of
lent_bytes iv b = record { server_key = bytes_bytes_of 32 0; session_key = bytes_bytes_of 32 0; iv = b; session_id = bytes_bytes_of 1 0; extra = bytes_bytes_of 0 0 }

-- two sessions of a table that calls may be lent
pub record Two (iv other : List ℕ) (state : State) (own others : Record) : Type 0 where
  pub ready : Ready state
  pub session : session_in iv state.table ≡ own
  pub beside : session_in other state.table ≡ others

pub turn_about : {iv other : List ℕ} {state : State} {a b : Record} → Two iv other state a b → Two other iv state b a
turn_about t = record { ready = t.ready; session = t.beside; beside = t.session }

-- a session beside another: its IV, and what its setup was lent
pub record Party (iv other : List ℕ) : Type 0 where
  pub apart : other ≡ iv → ⊥
  pub bytes : Bytes iv
  pub before : State
  pub done : (set_up (setting iv) before).number ≡ 0

pub us : Party ours theirs
unfolding same bytes_of
us = record { apart = λ e. true≢false (sym (same_self theirs) ∙ ap (same theirs) e); bytes = bytes_bytes_of 12 0; before = empty 2; done = set_up_lem.first }

pub them : Party theirs ours
unfolding same bytes_of number
them = record {
  apart = λ e. true≢false (sym (same_self ours) ∙ ap (same ours) e);
  bytes = bytes_bytes_of 12 (number theirs);
  before = (set_up (setting ours) (empty 2)).state;
  done = set_up_lem.second;
}

-- a request of one of them
module _ {iv other : List ℕ} (party : Party iv other) (n : ℕ) (small : n < 2 ^ 32) where
  abbrev q : Request
  q = sent iv n

  own_iv : iv_of q ≡ iv
  own_iv = iv_is (setting iv) party.before (saying n) 100 (zeros 1024) (lent_bytes iv party.bytes) party.done (fair iv n small)

  pub bears_own : borne (judging q) ≡ some iv
  bears_own = borne_is (setting iv) party.before (saying n) 100 (zeros 1024) (lent_bytes iv party.bytes) party.done (fair iv n small)

  -- accepted, it leaves its nonce in its record
  nonce_kept : (r : Record) → turned q 0 r ≡ next n r
  unfolding client_request
  nonce_kept r = ap (λ (k : ℕ). next k r) (client_nonce (setting iv) party.before (saying n) 100 (zeros 1024) (lent_bytes iv party.bytes) party.done (fair iv n small) refl)

  -- its session's window decides
  decided : (state : State) → Ready state → (r : Record) → session_in iv state.table ≡ r → r.used ≡ 1 → r.hash ≡ 4 → (judged q state).number ≡ number_of (step_of (window_of r) n).verdict
  unfolding chosen_of Hashes.chosen offered the contents key_number rank_of keys same mask_of number codes Value.grammar Value.fields_in Value.field_of Value.piece_good Value.text_obeys Value.carried Pieces.pieces Pieces.up_to Pieces.after decoded full two one Decoding.ending coded six_bits place_in alphabet counted obeys rule_of rule_at is_mask is_numeral plain
  decided state ready r is used hash =
      served (setting iv) party.before (saying n) 100 (zeros 1024) (lent_bytes iv party.bytes) party.done (fair iv n small) state ready r is used hash refl

  -- where there is none it is 12
  pub unserved : (state : State) → Ready state → session_in iv state.table ≡ freed → (judged q state).number ≡ 12
  unserved state = unknown (setting iv) party.before (saying n) 100 (zeros 1024) (lent_bytes iv party.bytes) party.done (fair iv n small) state

  module _ (state : State) where
    -- on the table
    pub asks : (own others : Record) (k : ℕ) → Two iv other state own others → (judged q state).number ≡ k → Two iv other (judged q state).state (turned q k own) others
    asks own others k t e =
        let turns = judge_turns q state t.ready.well t.ready.whole in
        record {
          ready = ready_left state t.ready (judging q);
          session = ap (λ (v : List ℕ). session_in v (judged q state).state.table) (sym own_iv) ∙ turns.session ∙ ap₂ (turned q) e (ap (λ (v : List ℕ). session_in v state.table) own_iv ∙ t.session);
          beside = (turns.others other (λ is. party.apart (is ∙ own_iv))).session ∙ t.beside;
        }

    asks_nonce : (own others : Record) → Two iv other state own others → (judged q state).number ≡ 0 → Two iv other (judged q state).state (next n own) others
    asks_nonce own others t e = subst (λ (r : Record). Two iv other (judged q state).state r others) (nonce_kept own) (asks own others 0 t e)

    -- by the thin entry
    module _ (place : ℕ) (at : place_of state.table iv ≡ Some place) (own others : Record) (t : Two iv other state own others) where
      mine : Own state t.ready.well place iv
      mine = lent state t.ready.well place iv at

      pub one_decided : own.used ≡ 1 → own.hash ≡ 4 → (judged_at place q state).number ≡ number_of (step_of (window_of own) n).verdict
      one_decided used hash =
          decided (taken_out place state) (one_ready state t.ready.well place t.ready mine.within) own
          (ap (held_at (taken_out place state).table) mine.here ∙ mine.same_record ∙ ap (held_at state.table) (sym at) ∙ t.session) used hash

      pub asks_one : (judged_at place q state).number ≡ 0 → Two iv other (judged_at place q state).state (next n own) others
      asks_one e =
          let turns = one_turns place q state t.ready.well t.ready.whole in
          record {
            ready = ready_left state t.ready (judging_one place q);
            session =
                ap (λ (v : List ℕ). session_in v (judged_at place q state).state.table) (sym own_iv) ∙ turns.session
                ∙ ap₂ (turned_at place q state) e (ap (λ (v : List ℕ). session_in v state.table) own_iv ∙ t.session)
                ∙ ap (λ (p : Option ℕ). cond (nowhere p) own (turned q 0 own)) (ap (place_of (taken_out place state).table) own_iv ∙ mine.here)
                ∙ nonce_kept own;
            beside = (turns.others other (λ is. party.apart (is ∙ own_iv))).session ∙ t.beside;
          }

-- the end of one of them
module _ {iv other : List ℕ} (party : Party iv other) (long : length iv ≡ 12) (state : State) (own others : Record) (t : Two iv other state own others) (used : own.used ≡ 1) where
  pub ends : (ended iv state).number ≡ 0
  unfolding end_checks state_checks end_fits
  ends =
      ended_number iv state
      ∙ rw (
        eq-eqb (length iv) 12 long,
        t.ready.sizes,
        is_well_formed _ t.ready.well,
        right_same state t.ready.index,
        unused iv state.table ∙ ap (λ (r : Record). not (is_used r)) t.session ∙ ap not (eq-eqb own.used 1 used),
      ) refl

  pub ended_two : Two iv other (ended iv state).state freed others
  ended_two =
      let turns = end_turns iv state t.ready.well t.ready.whole in
      record {
        ready = ready_left state t.ready (ending iv);
        session = turns.session ∙ rw ends refl;
        beside = (turns.others other party.apart).session ∙ t.beside;
      }

-- both are there from the beginning, theirs at 1
pub at_first : Two ours theirs both_sessions (new ours) (new theirs) × (place_of both_sessions.table theirs ≡ Some 1)
unfolding found records record_of record_bytes bytes_of number same
at_first = (record { ready = ready both_sessions lendable; session = refl; beside = refl }, refl)

module _ (state : State) (a b : Record) (t : Two ours theirs state a b) (used : a.used ≡ 1) (hash : a.hash ≡ 4) (n : ℕ) (small : n < 2 ^ 32) where
  -- our request with a nonce that the window takes, and with one that it took before
  pub we_ask : number_of (step_of (window_of a) n).verdict ≡ 0 → ((judged (sent ours n) state).number ≡ 0) × Two ours theirs (judged (sent ours n) state).state (next n a) b
  we_ask e = let zero = decided us n small state t.ready a t.session used hash ∙ e in (zero, asks_nonce us n small state a b t zero)

  pub we_repeat : number_of (step_of (window_of a) n).verdict ≡ 16 → ((judged (sent ours n) state).number ≡ 16) × Two ours theirs (judged (sent ours n) state).state a b
  we_repeat e = let again = decided us n small state t.ready a t.session used hash ∙ e in (again, asks us n small state a b 16 t again)

-- Document 02, K12, whose window's part is crates/window/proofs/Arrival.antt, carried to the gate: two histories that differ only in the order of one
-- session's requests, all of them accepted in both, leave the same record, and every other record and the index the same, too. The other calls may
-- be any, setups of other sessions among them, and the session's requests may come anywhere between them.
-- Assumes nothing.
pub mod Alike
pub mod Setups
pub mod Requests
pub mod Others
pub mod Windows
pub mod Witnesses
use mathlib.Core.Path.{◌≡◌, refl, sym, ap, ap₂, subst, ◌∙◌}
use mathlib.Core.Bool.{Bool, true, false, cond, not}
use mathlib.Core.List.Permᴰ
use mathlib.Core.List.{List, [], ◌∷◌, filter_map}
use Prim.Native.Nat.{ℕ}
use Rattle.window.specs.declared.Window.{Window}
use Rattle.std.specs.Prelude.{Option, Some, None}
use Rattle.table.specs.Record.{Fits, window_of, with_window}
use Rattle.table.specs.Session.{place_of, held_at}
use Rattle.table.specs.WellFormed.{Sound}
use Rattle.table.proofs.Records.{freed_fits}
use Rattle.table.proofs.Meaning.{freed_sound}
use Rattle.index.specs.Index.{index_of}
use Rattle.index.proofs.Held.{fits_only}
use Rattle.gate.specs.State.{State}
use Rattle.demands.specs.History.{Call, answer, after}
use Rattle.demands.specs.Struck.{Lendable, bears, unstruck, session_in}
use Rattle.demands.specs.Arrival.{is_request, AllAccepted, own_of, others_of, Reordered, SameRecords}
use Rattle.demands.proofs.Shared.Stored.{sound_at_lem}
use Rattle.demands.proofs.Shared.Named.{found_session}
use Rattle.demands.proofs.Struck.Kept.{Ready, ready, ready_left}
use Rattle.demands.proofs.Arrival.Alike as Alike
use Rattle.demands.proofs.Arrival.Alike.{LikeBut, like_self, like_back, like_through}
use Rattle.demands.proofs.Arrival.Requests.{nonce_in, with_nonce_lem, serves}
use Rattle.demands.proofs.Arrival.Windows.{arrived, any_arrival, nonces_of, arrives, sound_holds, rejoined}
use Rattle.demands.proofs.Arrival.Others.{others_alike, stood}

module _ (iv : List ℕ) (state : State) where
  abbrev begins : Window
  begins = window_of (session_in iv state.table)

  -- what calls leave whose own are all accepted: what the others leave, but for the session's window, which took the nonces in their order
  record Arrived (calls own others : List Call) : Type 0 where
    ready : Ready (after state calls)
    others_ready : Ready (after state others)
    like : LikeBut iv (after state calls).table (after state others).table
    window : (p : ℕ) → place_of (after state calls).table iv ≡ Some p → window_of (session_in iv (after state calls).table) ≡ arrived begins (nonces_of own)

  module _ (call : Call) (calls own others : List Call) (b : Arrived calls own others) where
    own_more : bears iv call ≡ true → is_request call ≡ true → (answer call (after state calls)).number ≡ 0 → Arrived (call ∷ calls) (call ∷ own) others
    unfolding after
    own_more e request zero =
        let s = serves (after state calls) b.ready iv call e request zero in
        record {
          ready = ready_left (after state calls) b.ready call;
          others_ready = b.others_ready;
          like = like_through iv _ _ _ s.like b.like;
          window = λ p at. s.window ∙ ap (with_nonce_lem (nonce_in call)) (b.window p (sym (s.like.place iv) ∙ at)) ∙ arrives begins call own;
        }

    other_more : bears iv call ≡ false → Arrived (call ∷ calls) own (call ∷ others)
    unfolding after
    other_more e = record {
      ready = ready_left (after state calls) b.ready call;
      others_ready = ready_left (after state others) b.others_ready call;
      like = others_alike iv (after state calls) (after state others) b.ready b.others_ready b.like call e;
      window = λ p at. let s = stood iv (after state calls) b.ready p call e at in ap window_of s.1 ∙ b.window p s.0;
    }

  all_arrived : Ready state → (calls : List Call) → AllAccepted iv state calls → Arrived calls (own_of iv calls) (others_of iv calls)
  unfolding after unstruck filter_map
  all_arrived r [] all = record { ready = r; others_ready = r; like = like_self iv state.table; window = λ p e. refl }
  all_arrived r (call ∷ earlier) all = by (bears iv call) refl (all_arrived r earlier all.1)
    where
      by : (t : Bool) → bears iv call ≡ t → Arrived earlier (own_of iv earlier) (others_of iv earlier)
          → Arrived (call ∷ earlier) (cond (not t) (own_of iv earlier) (call ∷ own_of iv earlier)) (cond t (others_of iv earlier) (call ∷ others_of iv earlier))
      by true e b = own_more call earlier _ _ b e (all.0 e).0 (all.0 e).1
      by false e b = other_more call earlier _ _ b e

session_sound : (iv : List ℕ) (state : State) → Ready state → Sound (session_in iv state.table) × Fits (session_in iv state.table)
session_sound iv state r = by (place_of state.table iv) refl
  where
    by : (p : Option ℕ) → place_of state.table iv ≡ p → Sound (held_at state.table p) × Fits (held_at state.table p)
    by (Some p) e = let h = (found_session state.table iv p e).within in (sound_at_lem state.table r.well p h, r.whole p h)
    by None e = (freed_sound, freed_fits)

module _ (iv : List ℕ) (state : State) (calls calls' : List Call) (lendable : Lendable state) (reordered : Reordered iv calls calls')
    (all : AllAccepted iv state calls) (all' : AllAccepted iv state calls') where
  one : Arrived iv state calls (own_of iv calls) (others_of iv calls)
  one = all_arrived iv state (ready state lendable) calls all

  other : Arrived iv state calls' (own_of iv calls') (others_of iv calls')
  other = all_arrived iv state (ready state lendable) calls' all'

  like : LikeBut iv (after state calls).table (after state calls').table
  like =
      like_through iv _ _ _ one.like
      (like_back iv _ _ (subst (λ (others : List Call). LikeBut iv (after state calls').table (after state others).table) (sym reordered.others) other.like))

  -- THE THEOREM: the session is left the same record
  pub same_record : session_in iv (after state calls).table ≡ session_in iv (after state calls').table
  same_record = by (place_of (after state calls).table iv) refl
    where
      by : (p : Option ℕ) → place_of (after state calls).table iv ≡ p → session_in iv (after state calls).table ≡ session_in iv (after state calls').table
      by (Some p) e =
          let start = session_sound iv state (ready state lendable) in
          rejoined _ (session_sound iv (after state calls) one.ready).0
          ∙ ap₂ with_window like.but
          (one.window p e
          ∙ any_arrival (window_of (session_in iv state.table)) (sound_holds _ start.0 start.1) (Permᴰ.filter_map nonce_in reordered.own)
          ∙ sym (other.window p (sym (like.place iv) ∙ e)))
          ∙ sym (rejoined _ (session_sound iv (after state calls') other.ready).0)
      by None e = ap (held_at (after state calls).table) e ∙ sym (ap (held_at (after state calls').table) (sym (like.place iv) ∙ e))

  -- and so is every other, and the index
  pub same_records : SameRecords (after state calls) (after state calls')
  same_records =
      let table = Alike.same_records iv _ _ like one.ready.well other.ready.well same_record in
      record { table = table; index = fits_only _ _ one.ready.index ∙ ap index_of table ∙ sym (fits_only _ _ other.ready.index) }

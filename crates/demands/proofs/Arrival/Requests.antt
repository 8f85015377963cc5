-- A session's own request that is accepted: its window takes the nonce where nonces are ordered, and nothing else of the table moves.
-- Assumes nothing.
use mathlib.Core.Path.{◌≡◌, refl, sym, ap, subst, ◌∙◌}
use mathlib.Core.Bool.{Bool, true, false, false≢true, cond}
use mathlib.Core.List.{List}
use mathlib.Core.Logic.{⊎_elim}
use mathlib.Core.Option.{Option, none, some}
use Prim.Native.Nat.{ℕ}
use borrow.Author.Tests.{eq-eqb}
use Rattle.window.specs.declared.Window.{Window}
use Rattle.window.specs.Window.{step_of}
use Rattle.table.specs.declared.session.Record.{Record}
use Rattle.std.specs.Prelude.{Option as Maybe, Some, None}
use Rattle.table.specs.Record.{window_of}
use Rattle.table.specs.Table.{is_used}
use Rattle.table.specs.Session.{place_of, held_at}
use Rattle.table.proofs.Sessions.{window_of_with}
use Rattle.stages.specs.Request.{Request}
use Rattle.stages.specs.Checks.{nowhere}
use Rattle.stages.specs.Parts.{iv_of, nonce_of, ordered}
use Rattle.gate.specs.State.{State}
use Rattle.gate.specs.Judge.{judged}
use Rattle.demands.specs.History.{Call, setting_up, judging, judging_one, ending, making_index, taken_out, judged_at, answer}
use Rattle.demands.specs.Struck.{bears, session_in}
use Rattle.demands.specs.Arrival.{is_request}
use Rattle.demands.proofs.Shared.Answers.{next, judged_number_lem}
use Rattle.demands.proofs.Shared.Checks.{accepted_passes}
use Rattle.demands.proofs.Shared.Named.{found_session}
use Rattle.demands.proofs.Shared.Others.{passes_finds}
use Rattle.demands.proofs.Shared.TakenOut.{own}
use Rattle.demands.proofs.Struck.Turned.{Turns}
use Rattle.demands.proofs.Struck.Calls.{turned, turned_at, judge_turns, one_turns}
use Rattle.demands.proofs.Struck.Kept.{Ready}
use Rattle.demands.proofs.Struck.Compared.{carries}
use Rattle.demands.proofs.Arrival.Alike.{LikeBut, bare, own_or_other}

-- the nonce that a request asks with, if nonces are ordered
abbrev asked : Request → Option ℕ
asked q = cond (ordered q) (some (nonce_of q)) none

abbrev pub nonce_in : Call → Option ℕ
nonce_in (setting_up s) = none
nonce_in (judging q) = asked q
nonce_in (judging_one place q) = asked q
nonce_in (ending iv) = none
nonce_in making_index = none

-- a window with such a nonce
abbrev pub with_nonce_lem : Option ℕ → Window → Window
with_nonce_lem none w = w
with_nonce_lem (some n) w = (step_of w n).window

-- what an accepted request does
pub record Serves (iv : List ℕ) (nonce : Option ℕ) (before after : List ℕ) : Type 0 where
  pub like : LikeBut iv after before
  pub window : window_of (session_in iv after) ≡ with_nonce_lem nonce (window_of (session_in iv before))

-- by how it turns its session's record
module _ (q : Request) (before after : List ℕ) (place : ℕ) (at : place_of before (iv_of q) ≡ Some place) (turn : Record → Record) (t : Turns (iv_of q) turn before after)
    (is : turn (session_in (iv_of q) before) ≡ turned q 0 (session_in (iv_of q) before)) where
  abbrev old : Record
  old = session_in (iv_of q) before

  stays_used : is_used (turn old) ≡ true
  stays_used = ap is_used is ∙ by (ordered q)
    where
      held : old.used ≡ 1
      held = ap (λ (p : Maybe ℕ). (held_at before p).used) at ∙ (found_session before (iv_of q) place at).used

      by : (o : Bool) → is_used (cond o (next (nonce_of q) old) old) ≡ true
      by true = eq-eqb _ 1 held
      by false = eq-eqb _ 1 held

  served : Serves (iv_of q) (asked q) before after
  served = record {
    like = record {
      long = t.long;
      place = λ v.
          ⊎_elim (λ e. rw e (t.place ∙ ap (λ (u : Bool). cond u (place_of before (iv_of q)) None) stays_used)) (λ n. (t.others v n).place) (own_or_other v (iv_of q));
      session = λ v n. (t.others v n).session;
      but = ap bare (t.session ∙ is) ∙ as_bare (ordered q);
    };
    window = ap window_of (t.session ∙ is) ∙ as_window (ordered q);
  }
    where
      as_bare : (o : Bool) → bare (cond o (next (nonce_of q) old) old) ≡ bare old
      as_bare true = refl
      as_bare false = refl

      as_window : (o : Bool) → window_of (cond o (next (nonce_of q) old) old) ≡ with_nonce_lem (cond o (some (nonce_of q)) none) (window_of old)
      as_window true = window_of_with old (step_of (window_of old) (nonce_of q)).window
      as_window false = refl

module _ (state : State) (ready : Ready state) where
  accepted : (q : Request) → (judged q state).number ≡ 0 → Serves (iv_of q) (asked q) state.table (judged q state).state.table
  accepted q z =
      let f = passes_finds q state (accepted_passes q state (sym (judged_number_lem q state) ∙ z)) in
      served q state.table _ f.place f.finds (turned q (judged q state).number) (judge_turns q state ready.well ready.whole)
      (ap (λ (n : ℕ). turned q n (session_in (iv_of q) state.table)) z)

  accepted_one : (place : ℕ) (q : Request) → (judged_at place q state).number ≡ 0 → Serves (iv_of q) (asked q) state.table (judged_at place q state).state.table
  accepted_one place q z =
      let one = taken_out place state in
      let f = passes_finds q one (accepted_passes q one (sym (judged_number_lem q one) ∙ z)) in
      let old = session_in (iv_of q) state.table in
      served q state.table _ place (own state ready.well place (iv_of q) f.place f.finds).there (turned_at place q state (judged_at place q state).number)
      (one_turns place q state ready.well ready.whole)
      (ap (λ (p : Maybe ℕ). cond (nowhere p) old (turned q (judged_at place q state).number old)) f.finds ∙ ap (λ (n : ℕ). turned q n old) z)

  -- the session whose IV it bears
  pub serves : (iv : List ℕ) (call : Call) → bears iv call ≡ true → is_request call ≡ true → (answer call state).number ≡ 0
      → Serves iv (nonce_in call) state.table (answer call state).state.table
  serves iv (setting_up s) e r z = absurd (false≢true r)
  serves iv (judging q) e r z = subst (λ (v : List ℕ). Serves v (asked q) state.table (judged q state).state.table) (carries q iv e) (accepted q z)
  serves iv (judging_one place q) e r z =
      subst (λ (v : List ℕ). Serves v (asked q) state.table (judged_at place q state).state.table) (carries q iv e) (accepted_one place q z)
  serves iv (ending other) e r z = absurd (false≢true r)
  serves iv making_index e r z = absurd (false≢true r)

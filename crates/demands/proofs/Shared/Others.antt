-- A request that passes the checks other than those of its nonce: it has a session, its nonce fits in a record, and where nonces are
-- ordered its session's window decides.
-- Assumes nothing.
use mathlib.Core.Path.{◌≡◌, refl, sym, ap, ◌∙◌}
use mathlib.Core.Bool.{Bool, true, cond, ◌&&◌}
use mathlib.Core.List.{[], ◌++◌, append-nil}
use Prim.Native.Nat.{ℕ, ◌<◌, ◌^◌}
use native.Mathlib.Omega.{arith}
use borrow.Author.Tests.{eq-eqb}
use lib.Dec.{eqb}
use Rattle.window.specs.declared.Verdict.{Verdict}
use Rattle.window.specs.declared.Verdict.TheVariants.{Accepted, TooOld, Seen}
use Rattle.window.specs.Window.{number_of}
use Rattle.window.specs.History.{is_accepted}
use Rattle.std.specs.Prelude.{Some}
use Rattle.gate.specs.State.{State}
use Rattle.stages.specs.Request.{Request}
use Rattle.stages.specs.Checks.{first}
use Rattle.table.specs.Session.{place_of}
use Rattle.stages.specs.Parts.{iv_of, nonce_of, ordered, stepped, reading_part, signature_part, vouching_part, session_part, nonce_part}
use Rattle.gate.specs.Judge.{entry_part, request_checks}
use Rattle.stages.proofs.Checks.{none_holds}
use Rattle.gate.proofs.Numbers.{entry_numbered}
use Rattle.stages.proofs.Parts.{reading_numbered, vouching_numbered}
use Rattle.demands.specs.Passing.{PassesOthers}
use Rattle.demands.proofs.Shared.Checks.{accepted_passes, nonce_decides, opens, finds}
use Rattle.demands.proofs.Shared.Named.{placed}
use Rattle.demands.proofs.Shared.Passed.{all_passed}
use Rattle.demands.proofs.Shared.Carried.{nonce_small}

-- a verdict accepts exactly if its number is 0
pub accepts_zero : (v : Verdict) → is_accepted v ≡ eqb (number_of v) 0
accepts_zero Accepted = refl
accepts_zero TooOld = refl
accepts_zero Seen = refl

verdict_number : (v : Verdict) → cond (eqb (number_of v) 15) 15 (cond (eqb (number_of v) 16) 16 0) ≡ number_of v
verdict_number Accepted = refl
verdict_number TooOld = refl
verdict_number Seen = refl

module _ (q : Request) (state : State) where
  pub record Finds : Type 0 where
    pub place : ℕ
    pub finds : place_of state.table (iv_of q) ≡ Some place
    pub small : nonce_of q < 2 ^ 32

  -- none of those checks holds, part by part
  pub record Parts : Type 0 where
    pub entry : first (entry_part q state) ≡ 0
    pub reading : first (reading_part q) ≡ 0
    pub vouching : first (vouching_part q) ≡ 0
    pub session : first (session_part q state.table) ≡ 0

  pub parts : PassesOthers q state → Parts
  unfolding entry_part
  parts e =
      let read = none_holds (entry_part q state) (reading_part q ++ (vouching_part q ++ session_part q state.table)) (entry_numbered _ _ _) e in
      let vouched = none_holds (reading_part q) (vouching_part q ++ session_part q state.table) (reading_numbered q) read.later in
      let admitted = none_holds (vouching_part q) (session_part q state.table) (vouching_numbered q) vouched.later in
      record { entry = read.none; reading = vouched.none; vouching = admitted.none; session = admitted.later }

  pub passes_finds : PassesOthers q state → Finds
  passes_finds e =
      let p = parts e in
      let opened = opens q (signature_part q) 0 p.vouching (λ z. omega arith) in
      let place = placed (place_of state.table (iv_of q)) (finds q state [] 0 (rw append-nil p.session) (λ z. omega arith)) in
      record { place = place.0; finds = place.1; small = nonce_small q state (all_passed q state p.entry p.reading opened) }

  pub passes_window : PassesOthers q state → ordered q ≡ true → first (request_checks q state) ≡ number_of (stepped q state.table).verdict
  unfolding nonce_part
  passes_window e o =
      let v = number_of (stepped q state.table).verdict in
      nonce_decides q state e
      ∙ ap (λ (t : Bool). cond (t && eqb v 15) 15 (cond (t && eqb v 16) 16 0)) o
      ∙ verdict_number (stepped q state.table).verdict

  -- an accepted request's nonce is one that its session's window accepts
  pub accepted_step : first (request_checks q state) ≡ 0 → ordered q ≡ true → is_accepted (stepped q state.table).verdict ≡ true
  accepted_step e o = accepts_zero (stepped q state.table).verdict ∙ eq-eqb _ 0 (sym (passes_window (accepted_passes q state e) o) ∙ e)

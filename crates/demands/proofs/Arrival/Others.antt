-- A call that does not bear a session's IV, on two tables that are alike but for that session's window.
-- Assumes nothing.
use mathlib.Core.Path.{◌≡◌, refl, sym, ap, subst, ◌∙◌}
use mathlib.Core.Bool.{false, true≢false}
use mathlib.Core.List.{List}
use mathlib.Core.Logic.{◌↔◌, ⊎_elim}
use Prim.Native.Nat.{ℕ}
use Rattle.cells.proofs.Equality.{same_self}
use Rattle.cells.proofs.Tests.{tested}
use Rattle.std.specs.Prelude.{Option, Some, None}
use Rattle.table.specs.Session.{place_of}
use Rattle.gate.specs.Calls.{Setup}
use Rattle.gate.specs.State.{State}
use Rattle.demands.specs.History.{Call, setting_up, judging, judging_one, ending, making_index, answer}
use Rattle.demands.specs.Struck.{bears, session_in, StandsAlike, here}
use Rattle.demands.proofs.Struck.Turned.{Undisturbed}
use Rattle.demands.proofs.Struck.Kept.{Ready, NoSetup, undisturbed}
use Rattle.demands.proofs.Struck.Compared.{goes_alike}
use Rattle.demands.proofs.Struck.Runs.{one_here, one_kept, other_kept}
use Rattle.demands.proofs.Arrival.Alike.{LikeBut, bare, own_or_other, stands}
use Rattle.demands.proofs.Arrival.Setups.{setup_alike, stood_before}

-- one place, if each place is the one exactly if it is the other
same_place : (p q : Option ℕ) → ((i : ℕ) → (p ≡ Some i) ↔ (q ≡ Some i)) → p ≡ q
same_place (Some i) q f = sym ((f i).0 refl)
same_place None (Some i) f = (f i).1 refl
same_place None None f = refl

module _ (iv : List ℕ) (a b : State) (ra : Ready a) (rb : Ready b) (l : LikeBut iv a.table b.table) (call : Call) (e : bears iv call ≡ false) (later : NoSetup call) where
  alike : (v : List ℕ) → (v ≡ iv → ⊥) → StandsAlike here v (answer call a).state.table (answer call b).state.table
  alike v n =
      let before = stands iv a.table b.table l v (l.session v n) in
      tested (bears v call)
      (λ t. subst (λ (c : Call). StandsAlike here v (answer call a).state.table (answer c b).state.table) (one_here call) (goes_alike here a b ra rb v call later t before).stands)
      (λ t. other_kept here v _ _ (one_kept here v _ _ before _ (undisturbed a ra v call later t)) _ (undisturbed b rb v call later t))

  in_a : Undisturbed iv a.table (answer call a).state.table
  in_a = undisturbed a ra iv call later e

  in_b : Undisturbed iv b.table (answer call b).state.table
  in_b = undisturbed b rb iv call later e

  like_after : LikeBut iv (answer call a).state.table (answer call b).state.table
  like_after = record {
    long = in_a.long ∙ l.long ∙ sym in_b.long;
    place = λ v.
        ⊎_elim (λ is. rw is (in_a.place ∙ l.place iv ∙ sym in_b.place)) (λ n. same_place _ _ (alike v n).place) (own_or_other v iv);
    session = λ v n. (alike v n).session;
    but = ap bare in_a.session ∙ l.but ∙ sym (ap bare in_b.session);
  }

-- a setup of another session
setup_apart : (iv : List ℕ) (s : Setup) → bears iv (setting_up s) ≡ false → iv ≡ s.iv → ⊥
setup_apart iv s e is = true≢false (sym (rw is (same_self s.iv)) ∙ e)

module _ (iv : List ℕ) (a b : State) (ra : Ready a) (rb : Ready b) (l : LikeBut iv a.table b.table) where
  pub others_alike : (call : Call) → bears iv call ≡ false → LikeBut iv (answer call a).state.table (answer call b).state.table
  others_alike (setting_up s) e = setup_alike s iv a b ra rb l (setup_apart iv s e)
  others_alike (judging q) e = like_after iv a b ra rb l (judging q) e tt
  others_alike (judging_one place q) e = like_after iv a b ra rb l (judging_one place q) e tt
  others_alike (ending other) e = like_after iv a b ra rb l (ending other) e tt
  others_alike making_index e = like_after iv a b ra rb l making_index e tt

-- the session stood before such a call, if it stands after it, and as it stands
module _ (iv : List ℕ) (state : State) (ready : Ready state) (p : ℕ) where
  abbrev Stood : Call → Type 0
  Stood call =
      place_of (answer call state).state.table iv ≡ Some p
      → (place_of state.table iv ≡ Some p) × (session_in iv (answer call state).state.table ≡ session_in iv state.table)

  kept : (call : Call) → NoSetup call → bears iv call ≡ false → Stood call
  kept call later e at = let u = undisturbed state ready iv call later e in (sym u.place ∙ at, u.session)

  pub stood : (call : Call) → bears iv call ≡ false → Stood call
  stood (setting_up s) e = stood_before s state iv ready (setup_apart iv s e) p
  stood (judging q) e = kept (judging q) tt e
  stood (judging_one place q) e = kept (judging_one place q) tt e
  stood (ending other) e = kept (ending other) tt e
  stood making_index e = kept making_index tt e

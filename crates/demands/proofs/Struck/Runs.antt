-- Calls on one table, and what a strike leaves of them on another in which a session stands alike.
-- Assumes nothing.
use mathlib.Core.Path.{◌≡◌, refl, sym, ap₂, ◌∙◌}
use mathlib.Core.Bool.{Bool, true, false, true≢false, cond}
use mathlib.Core.List.{List, [], ◌∷◌, cons≢nil}
use Prim.Native.Nat.{ℕ}
use lib.ListN.{length}
use Rattle.table.proofs.Tests.{refuted}
use Rattle.gate.specs.State.{State}
use Rattle.demands.specs.History.{Call, setting_up, judging, judging_one, ending, making_index, answer, after, lent_in}
use Rattle.demands.specs.Struck.{bears, Strike, Spares, unstruck, told_in, StandsAlike, here, elsewhere, all_elsewhere, SameSession}
use Rattle.demands.proofs.Struck.Turned.{Undisturbed}
use Rattle.demands.proofs.Struck.Kept.{Ready, NoSetup, ready_left, undisturbed}
use Rattle.demands.proofs.Struck.Compared.{goes_alike}

-- none of the calls is a setup
no_setups : (call : Call) (earlier : List Call) → lent_in (call ∷ earlier) ≡ [] → NoSetup call × (lent_in earlier ≡ [])
unfolding lent_in
no_setups (setting_up s) earlier e = absurd (cons≢nil e)
no_setups (judging q) earlier e = (tt, e)
no_setups (judging_one place q) earlier e = (tt, e)
no_setups (ending iv) earlier e = (tt, e)
no_setups making_index earlier e = (tt, e)

-- a call bears the same IV on another table, and is a setup there only if it is one here
elsewhere_bears : (to : ℕ → ℕ) (iv : List ℕ) (call : Call) → bears iv (elsewhere to call) ≡ bears iv call
elsewhere_bears to iv (setting_up s) = refl
elsewhere_bears to iv (judging q) = refl
elsewhere_bears to iv (judging_one place q) = refl
elsewhere_bears to iv (ending other) = refl
elsewhere_bears to iv making_index = refl

elsewhere_no_setup : (to : ℕ → ℕ) (call : Call) → NoSetup call → NoSetup (elsewhere to call)
elsewhere_no_setup to (setting_up s) later = later
elsewhere_no_setup to (judging q) later = tt
elsewhere_no_setup to (judging_one place q) later = tt
elsewhere_no_setup to (ending iv) later = tt
elsewhere_no_setup to making_index later = tt

-- on its own table every call is as it was
pub one_here : (call : Call) → elsewhere here call ≡ call
one_here (setting_up s) = refl
one_here (judging q) = refl
one_here (judging_one place q) = refl
one_here (ending iv) = refl
one_here making_index = refl

pub all_here : (calls : List Call) → all_elsewhere here calls ≡ calls
unfolding all_elsewhere
all_here [] = refl
all_here (call ∷ earlier) = ap₂ ◌∷◌ (one_here call) (all_here earlier)

-- a session that is not disturbed stands alike still
module _ (to : ℕ → ℕ) (iv one other : List ℕ) (alike : StandsAlike to iv one other) where
  pub one_kept : (after : List ℕ) → Undisturbed iv one after → StandsAlike to iv after other
  one_kept after u = record { session = u.session ∙ alike.session; place = λ p. rw u.place (alike.place p); within = λ p. rw u.long (alike.within p) }

  pub other_kept : (after : List ℕ) → Undisturbed iv other after → StandsAlike to iv one after
  other_kept after u = record { session = alike.session ∙ sym u.session; place = λ p. rw u.place (alike.place p); within = λ p. rw u.long (alike.within p) }

-- after some calls on one table and some on another
pub record Ran (to : ℕ → ℕ) (iv : List ℕ) (one : State) (calls : List Call) (other : State) (others : List Call) : Type 0 where
  pub ready_one : Ready (after one calls)
  pub ready_other : Ready (after other others)
  pub same : SameSession to iv one calls other others

-- a call more: struck out, or on both
module _ (to : ℕ → ℕ) (iv : List ℕ) (one other : State) (call : Call) (later : NoSetup call) (calls others : List Call) (r : Ran to iv one calls other others) where
  more_one : Ready (answer call (after one calls)).state
  more_one = ready_left (after one calls) r.ready_one call

  later_there : NoSetup (elsewhere to call)
  later_there = elsewhere_no_setup to call later

  more_other : Ready (answer (elsewhere to call) (after other others)).state
  more_other = ready_left (after other others) r.ready_other (elsewhere to call)

  passed_over : bears iv call ≡ false → StandsAlike to iv (answer call (after one calls)).state.table (after other others).table
  passed_over e = one_kept to iv _ _ r.same.stands _ (undisturbed (after one calls) r.ready_one iv call later e)

  gone : bears iv call ≡ false → Ran to iv one (call ∷ calls) other others
  unfolding after told_in
  gone e = record { ready_one = more_one; ready_other = r.ready_other; same = record { told = rw e r.same.told; stands = passed_over e } }

  stays : Ran to iv one (call ∷ calls) other (elsewhere to call ∷ others)
  unfolding after told_in
  stays = record { ready_one = more_one; ready_other = more_other; same = by (bears iv call) refl }
    where
      by : (t : Bool) → bears iv call ≡ t → SameSession to iv one (call ∷ calls) other (elsewhere to call ∷ others)
      by true e =
          let goes = goes_alike to (after one calls) (after other others) r.ready_one r.ready_other iv call later e r.same.stands in
          record { told = rw (elsewhere_bears to iv call, e) (ap₂ ◌∷◌ goes.told r.same.told); stands = goes.stands }
      by false e = record {
        told = rw (elsewhere_bears to iv call, e) r.same.told;
        stands =
            other_kept to iv _ _ (passed_over e) _
            (undisturbed (after other others) r.ready_other iv (elsewhere to call) later_there (elsewhere_bears to iv call ∙ e));
      }

module _ (to : ℕ → ℕ) (iv : List ℕ) (one other : State) (strikes : Strike) (spares : Spares iv strikes) where
  -- a call that is struck out does not bear the IV
  unborne : (before : ℕ) (call : Call) → strikes before call ≡ true → bears iv call ≡ false
  unborne before call e = refuted (bears iv call) (λ b. true≢false (sym e ∙ spares before call b))

  pub ran : Ready one → Ready other → StandsAlike to iv one.table other.table → (calls : List Call) → lent_in calls ≡ []
      → Ran to iv one calls other (all_elsewhere to (unstruck strikes calls))
  unfolding after told_in unstruck all_elsewhere
  ran a b alike [] e = record { ready_one = a; ready_other = b; same = record { told = refl; stands = alike } }
  ran a b alike (call ∷ earlier) e =
      let none = no_setups call earlier e in
      by (strikes (length earlier) call) refl none.0 (ran a b alike earlier none.1)
    where
      by : (t : Bool) → strikes (length earlier) call ≡ t → NoSetup call → Ran to iv one earlier other (all_elsewhere to (unstruck strikes earlier))
          → Ran to iv one (call ∷ earlier) other (all_elsewhere to (cond t (unstruck strikes earlier) (call ∷ unstruck strikes earlier)))
      by true z later r = gone to iv one other call later earlier _ r (unborne (length earlier) call z)
      by false z later r = stays to iv one other call later earlier _ r

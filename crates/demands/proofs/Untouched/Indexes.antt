-- What making an index does, by its number.
-- Assumes nothing.
use mathlib.Core.Path.{◌≡◌, refl, subst, ◌∙◌}
use mathlib.Core.Bool.{Bool, true, false, cond}
use mathlib.Core.List.{[], Memᴰ}
use Prim.Native.Nat.{ℕ}
use native.Mathlib.Omega.{arith}
use borrow.Author.Tests.{eqb-true, eqb-false, not-false}
use lib.Dec.{eqb}
use Rattle.table.specs.Table.{records}
use Rattle.table.specs.WellFormed.{WellFormed}
use Rattle.table.proofs.Meaning.{well_formed_is, is_well_formed}
use Rattle.index.proofs.Held.{fits_one}
use Rattle.stages.specs.Checks.{first}
use Rattle.stages.proofs.Checks.{numbered, passed_at}
use Rattle.gate.specs.State.{State, indexed, untouched}
use Rattle.gate.specs.Sizes.{state_fits}
use Rattle.gate.specs.Remake.{remake_checks, remake_outcome, remade}
use Rattle.demands.specs.Order.{Exactly}
use Rattle.demands.specs.Effects.{remake_numbers, Right, RemakeEffects}
use Rattle.demands.proofs.Shared.Order.{first_among, first_exactly}

remake_numbered : (state : State) → numbered (remake_checks state) ≡ true
unfolding remake_checks
remake_numbered state = refl

-- the index that is made fits
made_right : (state : State) → first (remake_checks state) ≡ 0 → Right (indexed state.table)
unfolding remake_checks
made_right state e =
    fits_one (records state.table) (well_formed_is (records state.table) (not-false _ (passed_at (remake_checks state) (remake_numbered state) e 3)))

remake_by : (state : State) (n : ℕ) → first (remake_checks state) ≡ n → Memᴰ n remake_numbers → Exactly (remake_checks state) n
    → RemakeEffects state (remake_outcome n state)
remake_by state n f m x = by (eqb n 0) refl
  where
    by : (t : Bool) → eqb n 0 ≡ t → RemakeEffects state (cond t (untouched 0 [] (indexed state.table)) (untouched n [] state))
    by true e =
        let z = eqb-true n 0 e in
        record {
          listed = Memᴰ.head refl;
          in_order = subst (Exactly (remake_checks state)) z x;
          no_reply = (refl, refl);
          refused = λ h. absurd (omega arith);
          passed = λ o. record { table = refl; index = made_right state (f ∙ z) };
        }
    by false e = record {
      listed = m;
      in_order = x;
      no_reply = (refl, refl);
      refused = λ h. refl;
      passed = λ o. absurd (eqb-false n 0 e o);
    }

pub remake_effects : (state : State) → RemakeEffects state (remade state)
unfolding remade remake_checks
remake_effects state =
    remake_by state (first (remake_checks state)) refl (first_among (remake_checks state)) (first_exactly (remake_checks state) (remake_numbered state))

-- where the sizes fit and the table is well formed, nothing refuses
pub made_all : (state : State) → state_fits state ≡ true → WellFormed (records state.table) → ((remade state).number ≡ 0) × Right (remade state).state
unfolding remade remake_checks
made_all state size w =
    let none : first (remake_checks state) ≡ 0 = rw (size, is_well_formed (records state.table) w) refl in
    rw none (refl, made_right state none)

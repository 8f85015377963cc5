-- What an ending does, by its number.
-- Assumes nothing.
use mathlib.Core.Path.{◌≡◌, refl, subst, ◌∙◌}
use mathlib.Core.Bool.{Bool, true, false, cond}
use mathlib.Core.List.{List, [], Memᴰ}
use Prim.Native.Nat.{ℕ}
use native.Mathlib.Omega.{arith}
use borrow.Author.Tests.{eqb-true, eqb-false}
use lib.Dec.{eqb}
use Rattle.gate.specs.State.{State, indexed, untouched}
use Rattle.stages.specs.Checks.{first}
use Rattle.gate.specs.Entry.{state_checks}
use Rattle.table.specs.Session.{without}
use Rattle.gate.specs.End.{end_checks, end_outcome, ended}
use Rattle.demands.specs.Order.{Exactly}
use Rattle.demands.proofs.Shared.Order.{first_among, first_exactly}
use Rattle.gate.proofs.Numbers.{end_numbered}
use Rattle.demands.proofs.Shared.Named.{somewhere, freed_there}
use Rattle.demands.proofs.Shared.Passed.{table_passed, session_passed}
use Rattle.demands.proofs.Shared.Indexes.{without_right}
use Rattle.demands.specs.Effects.{end_numbers, Ended, EndEffects}

ends : (iv : List ℕ) (state : State) → first (end_checks iv state) ≡ 0 → Ended iv state (end_outcome 0 iv state)
ends iv state none =
    let s = somewhere state.table iv (session_passed iv state none) in
    let w = table_passed iv state none in
    record { session = s; freed = freed_there state.table iv s.place w s.is; index = without_right state.table iv w }

end_by : (iv : List ℕ) (state : State) (n : ℕ) → first (end_checks iv state) ≡ n → Memᴰ n end_numbers → Exactly (end_checks iv state) n
    → EndEffects iv state (end_outcome n iv state)
end_by iv state n f m x = by (eqb n 0) refl
  where
    by : (t : Bool) → eqb n 0 ≡ t → EndEffects iv state (cond t (untouched 0 [] (indexed (without state.table iv))) (untouched n [] state))
    by true e =
        let z = eqb-true n 0 e in
        record {
          listed = Memᴰ.head refl;
          in_order = subst (Exactly (end_checks iv state)) z x;
          no_reply = (refl, refl);
          refused = λ h. absurd (omega arith);
          passed = λ o. ends iv state (f ∙ z);
        }
    by false e = record {
      listed = m;
      in_order = x;
      no_reply = (refl, refl);
      refused = λ h. refl;
      passed = λ o. absurd (eqb-false n 0 e o);
    }

pub end_effects : (iv : List ℕ) (state : State) → EndEffects iv state (ended iv state)
unfolding ended end_checks state_checks
end_effects iv state =
    end_by iv state (first (end_checks iv state)) refl (first_among (end_checks iv state)) (first_exactly (end_checks iv state) (end_numbered iv state))

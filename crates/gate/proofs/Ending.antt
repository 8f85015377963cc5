-- Ending a session: what its checks come to, and what it leaves.
-- Assumes nothing.
use mathlib.Core.Path.{◌≡◌, refl, sym, ap, ◌∙◌}
use mathlib.Core.Bool.{true, false}
use mathlib.Core.List.{List, []}
use Prim.Native.Nat.{ℕ}
use native.Mathlib.Omega.{arith}
use borrow.Author.Tests.{ne_eqb}
use Rattle.std.specs.Prelude.{Option, None}
use Rattle.table.specs.Record.{freed}
use Rattle.table.specs.Session.{place_of, with_record, without}
use Rattle.index.specs.Index.{Indexed}
use Rattle.stages.specs.Checks.{first, nowhere}
use Rattle.stages.proofs.Checks.{numbered, small, first_small, passed_by, stopped_by}
use Rattle.gate.specs.State.{State, holding, outcome}
use Rattle.gate.specs.Sizes.{end_fits}
use Rattle.gate.specs.Entry.{state_checks}
use Rattle.gate.specs.End.{end_checks, ended}
use Rattle.gate.proofs.Numbers.{answer_is}
use Rattle.gate.proofs.Judging.{left_indexed}

state_numbered : (state : State) → numbered (state_checks state) ≡ true
unfolding state_checks
state_numbered state = refl

state_small : (state : State) → small (state_checks state) ≡ true
unfolding state_checks
state_small state = refl

-- 1
pub end_unsized : (iv : List ℕ) (state : State) → end_fits iv state ≡ false → outcome 1 [] state ≡ ended iv state
unfolding ended end_checks
end_unsized iv state e = rw e

module _ (iv : List ℕ) (state : State) (fits : end_fits iv state ≡ true) where
  -- 3 or 22
  pub end_refused : (n : ℕ) → n ≡ first (state_checks state) → (n ≡ 0 → ⊥) → outcome n [] state ≡ ended iv state
  unfolding ended end_checks
  end_refused n e z =
      rw (fits, stopped_by (state_checks state) _ (state_numbered state) (λ o. z (e ∙ o)), ← e, ne_eqb n 0 z)
      (answer_is n n 0 [] state (omega arith) (rw e (first_small (state_checks state) (state_small state))))

  module _ (passed : first (state_checks state) ≡ 0) where
    pub end_missing : place_of state.table iv ≡ None → outcome 12 [] state ≡ ended iv state
    unfolding ended end_checks
    end_missing e = rw (fits, passed_by (state_checks state) _ (state_numbered state) passed, e)

    pub end_freed : (place : Option ℕ) {after index : List ℕ} → place_of state.table iv ≡ place → nowhere place ≡ false → after ≡ with_record state.table place freed
        → Indexed after index → outcome 0 [] (holding after index) ≡ ended iv state
    unfolding ended end_checks without
    end_freed place e there left h =
        ap (outcome 0 []) (left_indexed (left ∙ ap (λ (p : Option ℕ). with_record state.table p freed) (sym e)) h)
        ∙ sym (rw (fits, passed_by (state_checks state) _ (state_numbered state) passed, ap nowhere e ∙ there))

-- The IVs of setups that were answered 0 are iv_among those that were lent to setups.
-- Assumes nothing.
use mathlib.Core.Path.{◌≡◌, refl}
use mathlib.Core.Bool.{Bool, true, false, cond}
use mathlib.Core.List.{List, [], ◌∷◌}
use Prim.Native.Nat.{ℕ}
use lib.Dec.{eqb}
use Rattle.cells.specs.Runs.{same}
use Rattle.gate.specs.State.{State}
use Rattle.demands.specs.History.{Call, setting_up, judging, judging_one, ending, making_index, answer, after, set_up_in, lent_in, Apart, iv_among}
use Rattle.demands.proofs.History.Sessions.{neither}

-- an IV that was lent to no setup was not set up
lent_none : (iv : List ℕ) (state : State) (calls : List Call) → iv_among (lent_in calls) iv ≡ false → iv_among (set_up_in state calls) iv ≡ false
unfolding lent_in set_up_in
lent_none iv state [] e = refl
lent_none iv state (setting_up s ∷ earlier) e =
    let parts = neither (same iv s.iv) (iv_among (lent_in earlier) iv) e in
    by (eqb (answer (setting_up s) (after state earlier)).number 0) parts.0 (lent_none iv state earlier parts.1)
  where
    by : (t : Bool) → same iv s.iv ≡ false → iv_among (set_up_in state earlier) iv ≡ false
        → iv_among (cond t (s.iv ∷ set_up_in state earlier) (set_up_in state earlier)) iv ≡ false
    by true d rest = rw d rest
    by false d rest = rest
lent_none iv state (judging q ∷ earlier) e = lent_none iv state earlier e
lent_none iv state (judging_one place q ∷ earlier) e = lent_none iv state earlier e
lent_none iv state (ending other ∷ earlier) e = lent_none iv state earlier e
lent_none iv state (making_index ∷ earlier) e = lent_none iv state earlier e

-- where no IV was lent to two setups, no two setups that were answered 0 had one IV
pub lent_apart : (state : State) (calls : List Call) → Apart (lent_in calls) → Apart (set_up_in state calls)
unfolding lent_in set_up_in
lent_apart state [] a = tt
lent_apart state (setting_up s ∷ earlier) a =
    by (eqb (answer (setting_up s) (after state earlier)).number 0) (lent_none s.iv state earlier a.0) (lent_apart state earlier a.1)
  where
    by : (t : Bool) → iv_among (set_up_in state earlier) s.iv ≡ false → Apart (set_up_in state earlier)
        → Apart (cond t (s.iv ∷ set_up_in state earlier) (set_up_in state earlier))
    by true d rest = (d, rest)
    by false d rest = rest
lent_apart state (judging q ∷ earlier) a = lent_apart state earlier a
lent_apart state (judging_one place q ∷ earlier) a = lent_apart state earlier a
lent_apart state (ending iv ∷ earlier) a = lent_apart state earlier a
lent_apart state (making_index ∷ earlier) a = lent_apart state earlier a

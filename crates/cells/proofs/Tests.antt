-- Laws of tests: one holds or fails, two hold at once, and one that holds at every number below a bound holds at each.
-- Assumes nothing.
use mathlib.Core.Path.{◌≡◌, refl, sym, subst}
use mathlib.Core.Logic.{⊎_elim}
use mathlib.Core.Bool.{Bool, true, false, false≢true, ◌&&◌}
use Prim.Native.Nat.{ℕ, zero, suc, ◌<◌}
use native.Mathlib.Nat.{not-suc-le-zero, le_of_suc-le-suc, eq-or-lt_of_le}

pub tested : {P : Type 0} (t : Bool) → (t ≡ true → P) → (t ≡ false → P) → P
tested true holds fails = holds refl
tested false holds fails = fails refl

pub both : (a b : Bool) → (a && b) ≡ true → (a ≡ true) × (b ≡ true)
both true b e = (refl, e)
both false b e = absurd (false≢true e)

-- antt computes the test at each number
abbrev pub every_below : (ℕ → Bool) → ℕ → Bool
every_below f zero = true
every_below f (suc n) = f n && every_below f n

pub every_at : (f : ℕ → Bool) (n : ℕ) → every_below f n ≡ true → (k : ℕ) → k < n → f k ≡ true
every_at f zero t k h = absurd (not-suc-le-zero h)
every_at f (suc n) t k h =
    let parts = both (f n) (every_below f n) t in
    ⊎_elim (λ e. subst (λ (m : ℕ). f m ≡ true) (sym e) parts.0) (λ l. every_at f n parts.1 k l) (eq-or-lt_of_le (le_of_suc-le-suc h))

-- A number by the order of the checks: demand 1, 'gets its number from our list, by the order given there'.
-- Assumes nothing.
use Rattle.std.specs.Prelude.{◌≡◌, true, false, List, ℕ, ◌≤◌, ◌<◌, length, get_or}
use Rattle.stages.specs.Checks.{Check, check}

-- no check
abbrev pub unchecked : Check
unchecked = check 0 false

-- check k holds, and none before it in the order does
pub record Given (k : ℕ) (cs : List Check) : Type 0 where
  pub place : ℕ
  pub within : place < length cs
  pub number : (get_or cs place unchecked).number ≡ k
  pub holds : (get_or cs place unchecked).holds ≡ true
  pub before : (j : ℕ) → j < place → (get_or cs j unchecked).holds ≡ false

-- none of the checks holds
abbrev pub NoneHolds : List Check → Type 0
NoneHolds cs = (j : ℕ) → j < length cs → (get_or cs j unchecked).holds ≡ false

-- number k is given exactly if check k holds and none before it does, and 0 exactly if none holds
pub record Exactly (cs : List Check) (n : ℕ) : Type 0 where
  pub given : (k : ℕ) → 1 ≤ k → n ≡ k → Given k cs
  pub only : (k : ℕ) → Given k cs → n ≡ k
  pub passed : n ≡ 0 → NoneHolds cs
  pub none : NoneHolds cs → n ≡ 0

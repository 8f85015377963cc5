-- Checks in order: document 01, 'The numbers a call returns'.
-- Assumes nothing.
use Rattle.std.specs.Prelude.{Bool, true, false, cond, List, [], ◌∷◌, ℕ}
use Rattle.std.proofs.Math.Option.{Option, none, some}
use Rattle.armor.specs.Value.{Field}
use Rattle.std.specs.Prelude as P

-- a number, and whether what it is given for holds
pub record Check : Type 0 where
  pub number : ℕ
  pub holds : Bool

abbrev pub check : ℕ → Bool → Check
check number holds = record { number = number; holds = holds }

-- the number of the first that holds, and 0 where none does
abbrev pub first : List Check → ℕ
first [] = 0
first (c ∷ cs) = cond c.holds c.number (first cs)

abbrev pub missing : Option (List Field) → Bool
missing none = true
missing (some fs) = false

-- there is no place
abbrev pub nowhere : P.Option ℕ → Bool
nowhere (P.Some place) = false
nowhere P.None = true

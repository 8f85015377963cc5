-- Two orders in which one session's requests arrive: document 02, K12. Calls stand with the latest first, as in History.
-- Assumes nothing.
use Rattle.std.specs.Prelude.{◌≡◌, Bool, true, false, ℕ}
use mathlib.Core.List.{List, [], ◌∷◌, Permᴰ}
use Rattle.cells.specs.Runs.{same}
use Rattle.table.specs.Table.{records}
use Rattle.gate.specs.State.{State}
use Rattle.demands.specs.History.{Call, setting_up, judging, judging_one, ending, making_index, answer, after}
use Rattle.demands.specs.Struck.{bears, unstruck, calls_of}

abbrev pub is_request : Call → Bool
is_request (setting_up s) = false
is_request (judging q) = true
is_request (judging_one place q) = true
is_request (ending iv) = false
is_request making_index = false

-- every call that bears an IV is a request, and is answered 0
abbrev pub AllAccepted : List ℕ → State → List Call → Type 0
AllAccepted iv state [] = Unit
AllAccepted iv state (call ∷ earlier) =
    (bears iv call ≡ true → (is_request call ≡ true) × ((answer call (after state earlier)).number ≡ 0)) × AllAccepted iv state earlier

-- the calls that bear an IV, and those that do not
abbrev pub own_of : List ℕ → List Call → List Call
own_of iv = calls_of (λ other. same other iv)

abbrev pub others_of : List ℕ → List Call → List Call
others_of iv = unstruck (λ before call. bears iv call)

-- two histories differ only in the order of the calls that bear an IV, and in where these come among the others
pub record Reordered (iv : List ℕ) (calls calls' : List Call) : Type 0 where
  pub own : Permᴰ (own_of iv calls) (own_of iv calls')
  pub others : others_of iv calls ≡ others_of iv calls'

-- the same records, each at its place, and the same index
pub record SameRecords (one other : State) : Type 0 where
  pub table : records one.table ≡ records other.table
  pub index : one.index ≡ other.index

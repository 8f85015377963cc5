-- A text laid in a run.
-- Assumes nothing.
use Rattle.std.specs.Prelude.{◌≡◌, List, ℕ, ◌+◌, length}
use Rattle.cells.specs.Runs.{spliced}

-- left is out with a text from byte at on, which ends before byte end
pub record Laid (out left : List ℕ) (at end : ℕ) (text : List ℕ) : Type 0 where
  pub is : left ≡ spliced out at text
  pub ends : end ≡ at + length text

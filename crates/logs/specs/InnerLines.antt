-- Lines counted one by one.
-- Assumes nothing.
use Rattle.std.specs.Prelude.{ℕ, ◌+◌, ◌≤◌, ◌≡◌, List, [], ◌∷◌, true, length, get_or, take, drop, set}
use Rattle.cells.specs.Spans.{all}
use Rattle.logs.specs.Line.{other}
use Rattle.logs.specs.Counts.{LF, lines, under, sum}
use Rattle.logs.specs.Taken.{Ended}

-- one line more
abbrev pub counted : List ℕ → List ℕ → List ℕ
counted ns l = set ns (under l) (get_or ns (under l) 0 + 1)

-- and some
unfoldable pub counted_all : List ℕ → List (List ℕ) → List ℕ
counted_all ns [] = ns
counted_all ns (l ∷ ls) = counted_all (counted ns l) ls

-- the lines of part that end in it are counted, and the next one begins at byte r
pub record LinesCounted (ns : List ℕ) (part left : List ℕ) (r : ℕ) : Type 0 where
  pub within : r ≤ length part
  pub is : left ≡ counted_all ns (lines (take r part))
  pub most : sum left ≤ sum ns + r
  pub ends : Ended (take r part)
  pub unended : all (other LF) (drop r part) ≡ true

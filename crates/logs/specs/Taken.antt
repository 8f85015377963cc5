-- Which text a state has taken in.
-- Assumes nothing.
use Rattle.std.specs.Prelude.{ℕ, ◌+◌, ◌≤◌, min, ◌≡◌, List, [], ◌∷◌, ◌++◌, true, length, take}
use Rattle.cells.specs.Spans.{all}
use Rattle.logs.specs.Line.{other}
use Rattle.logs.specs.Counts.{LF, lines, counts, sum}
use Rattle.logs.specs.declared.state.State.{State}

-- a text after which a line begins
abbrev pub Ended : List ℕ → Type 0
Ended text = (more : List ℕ) → lines (text ++ more) ≡ lines text ++ lines more

-- the text is lines that have ended, which are counted, and a line that is begun, which is kept up to 8,192 bytes
pub record Holds (s : State) (text : List ℕ) : Type 0 where
  pub ended : List ℕ
  pub begun : List ℕ
  pub is : text ≡ ended ++ begun
  pub ends : Ended ended
  pub unended : all (other LF) begun ≡ true
  pub told : s.counts ≡ counts (lines ended)
  pub size : s.size ≡ min (length begun) 8193
  pub kept : s.size ≤ 8192 → take s.size s.begun ≡ begun

-- s took in part and became r: whatever text s had taken in, r has taken in that text and then part. Each line more has ended with a byte of the part.
pub record TookIn (s : State) (part : List ℕ) (r : State) : Type 0 where
  pub most : sum r.counts ≤ sum s.counts + length part
  pub appended : (text : List ℕ) → Holds s text → Holds r (text ++ part)

-- s took in some parts, one after the other, and became r
abbrev pub TookInAll : State → List (List ℕ) → State → Type 0
TookInAll s [] r = s ≡ r
TookInAll s (part ∷ parts) r = (t : State) × TookIn s part t × TookInAll t parts r

-- parts side by side
abbrev pub joined : List (List ℕ) → List ℕ
joined [] = []
joined (part ∷ parts) = part ++ joined parts

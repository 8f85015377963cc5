-- Where lines and values stand in a block: how the code's contracts say it.
-- Assumes nothing.
use Rattle.std.specs.Prelude.{ℕ, ◌+◌, ◌≤◌, ◌<◌, ◌≡◌, List, [], ◌∷◌, ◌++◌, true, length, drop, Option, None, Some}
use Rattle.cells.specs.Runs.{cut}
use Rattle.lines.specs.Lines.{Line, good_line, line_text, lines_in}
use Rattle.lines.specs.Values.{trimmed, values_in}
use Rattle.lines.specs.declared.Line.{Line as Place}

-- the line from index at on, whose colon stands at colon and whose CR at end
abbrev pub line_between : List ℕ → ℕ → ℕ → ℕ → Line
line_between block at colon end = record { name = cut block at colon; value = cut block (colon + 1) end }

pub record WholeLine (block : List ℕ) (at colon end : ℕ) : Type 0 where
  pub named : at < colon
  pub ordered : colon < end
  pub within : end + 2 ≤ length block
  pub good : good_line (line_between block at colon end) ≡ true
  pub text : drop at block ≡ line_text (line_between block at colon end) ++ drop (end + 2) block

-- no good line stands from index at on
abbrev pub NoLine : List ℕ → ℕ → Type 0
NoLine block at = (l : Line) (rest : List ℕ) → good_line l ≡ true → drop at block ≡ line_text l ++ rest → ⊥

-- r is the line from index at on, if one stands there
abbrev pub LineIs : List ℕ → ℕ → Option Place → Type 0
LineIs block at (Some r) = WholeLine block at r.colon r.end
LineIs block at None = NoLine block at

-- a line stands at index at
pub record Stands (block : List ℕ) (at : ℕ) : Type 0 where
  pub colon : ℕ
  pub end : ℕ
  pub is : WholeLine block at colon end

-- the value of the first line
abbrev pub front_value : List Line → List ℕ
front_value [] = []
front_value (l ∷ ls) = trimmed l.value

-- the values of the first line and of those after it that bear its name
abbrev pub own_values : List Line → List (List ℕ)
own_values [] = []
own_values (l ∷ ls) = trimmed l.value ∷ values_in ls l.name

abbrev pub front_at : List ℕ → ℕ → List ℕ
front_at block at = front_value (lines_in (drop at block))

abbrev pub own_at : List ℕ → ℕ → List (List ℕ)
own_at block at = own_values (lines_in (drop at block))

-- these are the values of the line that is found, and of those after it that bear its name
pub record FoundAt (block : List ℕ) (values : List (List ℕ)) (at place : ℕ) : Type 0 where
  pub from : at ≤ place
  pub stands : Stands block place
  pub are : values ≡ own_at block place

abbrev pub Finds : List ℕ → List (List ℕ) → ℕ → Option ℕ → Type 0
Finds block values at (Some place) = FoundAt block values at place
Finds block values at None = values ≡ []

-- r is the first line from index at on that bears the name
abbrev pub FoundIs : List ℕ → ℕ → List ℕ → Option ℕ → Type 0
FoundIs block at name r = Finds block (values_in (lines_in (drop at block)) name) at r

-- r is the first line after the one at index at that bears its name
pub record AgainIs (block : List ℕ) (at : ℕ) (r : Option ℕ) : Type 0 where
  pub others : List (List ℕ)
  pub are : own_at block at ≡ front_at block at ∷ others
  pub found : Finds block others (at + 1) r

-- Invariant of the code: where the texts of the keys stand.
-- Assumes nothing.
use Rattle.std.specs.Prelude.{List, ℕ, ◌≡◌, ◌<◌, ◌≤◌, length, get_or}
use Rattle.armor.specs.declared.Span.{Span}
use Rattle.armor.specs.declared.tally.Tally.{Tally}

abbrev pub no_tally : Tally
no_tally = record { count = 0; text = record { start = 0; end = 0 } }

-- a text of a run
pub record IsIn (v : List ℕ) (s : Span) : Type 0 where
  pub in_order : s.start ≤ s.end
  pub within : s.end ≤ length v

-- each key's text is one of the value
pub record Within (v : List ℕ) (ts : List Tally) : Type 0 where
  pub all : length ts ≡ 12
  pub texts : (k : ℕ) → k < 12 → IsIn v (get_or ts k no_tally).text

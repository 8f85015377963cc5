-- Where parts of a line end: how the code's contracts say it.
-- Assumes nothing.
use Rattle.std.specs.Prelude.{ℕ, ◌≤◌, ◌<◌, ◌≡◌, List, Bool, false, Option, Some, None, eqb, length, drop}
use Rattle.logs.specs.Counts.{under}
use Rattle.logs.specs.Line.{Kind, ◌then◌, byte, space, word, date, request, status, size}

-- the parts of a line, each before what follows it
abbrev pub word_part : Kind → Kind
word_part rest = word then space then rest

abbrev pub date_part : Kind → Kind
date_part rest = byte 91 then date then byte 93 then space then rest

abbrev pub request_part : Kind → Kind
request_part rest = byte 34 then request then byte 34 then space then rest

abbrev pub status_part : ℕ → Kind
status_part s = status s then space then size

-- a part that starts at index at ends at index r: whatever follows it stands there
pub record Past (part : Kind → Kind) (xs : List ℕ) (at r : ℕ) : Type 0 where
  pub is : (rest : Kind) → part rest (drop at xs) ≡ rest (drop r xs)
  pub within : r ≤ length xs

-- and none does, whatever follows it
abbrev pub PastIs : (Kind → Kind) → List ℕ → ℕ → Option ℕ → Type 0
PastIs part xs at None = (rest : Kind) → part rest (drop at xs) ≡ false
PastIs part xs at (Some r) = Past part xs at r

-- r is the one status for which p holds
pub record Only (p : ℕ → Bool) (r : ℕ) : Type 0 where
  pub from : 100 ≤ r
  pub below : r < 600
  pub is : (s : ℕ) → 100 ≤ s → s < 600 → p s ≡ eqb s r

-- and it holds for none
abbrev pub OnlyIs : (ℕ → Bool) → Option ℕ → Type 0
OnlyIs p None = (s : ℕ) → 100 ≤ s → s < 600 → p s ≡ false
OnlyIs p (Some r) = Only p r

-- the status that a line goes under, if it is read
abbrev pub GoesUnder : List ℕ → Option ℕ → Type 0
GoesUnder l None = under l ≡ 0
GoesUnder l (Some r) = (under l ≡ r) × (100 ≤ r) × (r < 600)

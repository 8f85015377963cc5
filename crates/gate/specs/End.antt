-- Ending a session by its IV: document 01, 'The numbers a call returns', and document 02, K7, for the index. No reply buffer is lent.
-- Assumes nothing.
use Rattle.std.specs.Prelude.{cond, not, List, [], ◌∷◌, ◌++◌, ℕ, eqb}
use Rattle.stages.specs.Checks.{Check, check, first, nowhere}
use Rattle.table.specs.Session.{place_of, without}
use Rattle.gate.specs.State.{State, indexed, Outcome, untouched}
use Rattle.gate.specs.Sizes.{end_fits}
use Rattle.gate.specs.Entry.{state_checks}

-- 1, 3, 22, 12
unfoldable pub end_checks : List ℕ → State → List Check
end_checks iv s = check 1 (not (end_fits iv s)) ∷ (state_checks s ++ (check 12 (nowhere (place_of s.table iv)) ∷ []))

abbrev pub end_outcome : ℕ → List ℕ → State → Outcome
end_outcome number iv s = cond (eqb number 0) (untouched 0 [] (indexed (without s.table iv))) (untouched number [] s)

unfoldable pub ended : List ℕ → State → Outcome
ended iv s = end_outcome (first (end_checks iv s)) iv s

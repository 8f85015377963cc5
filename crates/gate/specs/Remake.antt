-- Making an index anew: document 02, K7. Whatever stood there, the one that fits stands there then. No reply buffer is lent.
-- Assumes nothing.
use Rattle.std.specs.Prelude.{cond, not, List, [], ◌∷◌, ℕ, eqb}
use Rattle.table.specs.Table.{records}
use Rattle.table.specs.WellFormed.{well_formed}
use Rattle.stages.specs.Checks.{Check, check, first}
use Rattle.gate.specs.State.{State, indexed, Outcome, untouched}
use Rattle.gate.specs.Sizes.{state_fits}

-- 1, 3
unfoldable pub remake_checks : State → List Check
remake_checks s = check 1 (not (state_fits s)) ∷ check 3 (not (well_formed (records s.table))) ∷ []

abbrev pub remake_outcome : ℕ → State → Outcome
remake_outcome number s = cond (eqb number 0) (untouched 0 [] (indexed s.table)) (untouched number [] s)

unfoldable pub remade : State → Outcome
remade s = remake_outcome (first (remake_checks s)) s

-- Going through the names of a run, one after the other: how the code's contracts say it.
-- Assumes nothing.
use denote.Ref.{Bor}
use Rattle.std.specs.Prelude.{ℕ, ◌≡◌, List, [], Bool, not, cond, length, drop, leb, eqb, Option, None, Some}
use Rattle.names.specs.Names.{header_names}
use Rattle.names.specs.Extra.{comma, names_in}
use Rattle.names.specs.declared.each.Names.{Names}

-- the 55 names, joined by commas
abbrev pub Known : List ℕ → Type 0
Known run = names_in run ≡ header_names

abbrev pub no_comma : ℕ → Bool
no_comma b = not (eqb b comma)

-- the names of a run from the one that starts at index at on; past the run's end there are none
unfoldable pub names_from : List ℕ → ℕ → List (List ℕ)
names_from run at = cond (leb at (length run)) (names_in (drop at run)) []

-- the names that are left of a run
abbrev pub left_of : Option (Bor (List ℕ)) → List (List ℕ)
left_of None = []
left_of (Some rest) = names_in rest.now

abbrev pub names_left : Names → List (List ℕ)
names_left names = left_of names.rest

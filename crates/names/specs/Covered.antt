-- The names that orders cover: document 01, 'The X-S-Armor value'.
-- Assumes nothing.
use Rattle.std.specs.Prelude.{ℕ, ◌/◌, ◌%◌, List, [], ◌∷◌, ◌++◌, Bool, true, false, eqb}
use Rattle.names.specs.Names.{header_names}
use Rattle.names.specs.Extra.{extra_names}

-- a name before others, if it is chosen
abbrev pub chosen_first : Bool → List ℕ → List (List ℕ) → List (List ℕ)
chosen_first true n ns = n ∷ ns
chosen_first false n ns = ns

-- the names whose bits are set in a number, the lowest bit for the first name
unfoldable pub chosen : ℕ → List (List ℕ) → List (List ℕ)
chosen bits [] = []
chosen bits (n ∷ ns) = chosen_first (eqb (bits % 2) 1) n (chosen (bits / 2) ns)

-- by rising bit from bit 1 on, bit 0 being no name, and then the extra ones in their order
unfoldable pub covered_names : ℕ → List ℕ → List (List ℕ)
covered_names mask extra = chosen (mask / 2) header_names ++ extra_names extra

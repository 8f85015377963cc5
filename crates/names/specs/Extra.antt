-- The extra names: document 01, 'Orders, records and sizes'.
-- Assumes nothing.
use Rattle.std.specs.Prelude.{ℕ, List, [], ◌∷◌, Bool, true, not, cond, ◌&&◌, length, leb, eqb}
use Rattle.names.specs.Names.{is_token, same_name, has_name, armor_name, header_names}

abbrev pub comma : ℕ
comma = 44

-- a byte put before the first of some names
abbrev pub onto_first : ℕ → List (List ℕ) → List (List ℕ)
onto_first b [] = (b ∷ []) ∷ []
onto_first b (n ∷ ns) = (b ∷ n) ∷ ns

-- what stands before, between and after the commas of a run
unfoldable pub names_in : List ℕ → List (List ℕ)
names_in [] = [] ∷ []
names_in (b ∷ bs) = cond (eqb b comma) ([] ∷ names_in bs) (onto_first b (names_in bs))

-- the names that a run joins by commas; the empty run has none
unfoldable pub extra_names : List ℕ → List (List ℕ)
extra_names [] = []
extra_names (b ∷ bs) = names_in (b ∷ bs)

-- a token, none of the 55 and not X-S-Armor
unfoldable pub allowed : List ℕ → Bool
allowed name = is_token name && not (has_name header_names name) && not (same_name armor_name name)

-- each name is allowed, and none of those after it is the same
unfoldable pub good_names : List (List ℕ) → Bool
good_names [] = true
good_names (n ∷ ns) = allowed n && not (has_name ns n) && good_names ns

unfoldable pub good_extra : List ℕ → Bool
good_extra run = leb (length run) 128 && leb (length (extra_names run)) 8 && good_names (extra_names run)

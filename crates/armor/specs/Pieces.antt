-- A run cut at a byte: document 01, The X-S-Armor value.
-- Assumes nothing.
use Rattle.std.specs.Prelude.{◌≡◌, cond, List, [], ◌∷◌, ℕ, ◌<◌, eqb, length, get_or}

-- the bytes : and ;
abbrev pub colon : ℕ
colon = 58

abbrev pub semicolon : ℕ
semicolon = 59

-- what stands before the first b; all where there is none
unfoldable pub up_to : ℕ → List ℕ → List ℕ
up_to b [] = []
up_to b (x ∷ xs) = cond (eqb x b) [] (x ∷ up_to b xs)

-- what stands after the first b; nothing where there is none
unfoldable pub after : ℕ → List ℕ → List ℕ
after b [] = []
after b (x ∷ xs) = cond (eqb x b) xs (after b xs)

abbrev pub onto : ℕ → List (List ℕ) → List (List ℕ)
onto x [] = (x ∷ []) ∷ []
onto x (p ∷ ps) = (x ∷ p) ∷ ps

-- the pieces of a run, each of which ends with ; or with the run
unfoldable pub pieces : List ℕ → List (List ℕ)
pieces [] = []
pieces (x ∷ xs) = cond (eqb x semicolon) ([] ∷ pieces xs) (onto x (pieces xs))

-- b stands nowhere in a run
abbrev pub Without : ℕ → List ℕ → Type 0
Without b xs = (i : ℕ) → i < length xs → get_or xs i 0 ≡ b → ⊥

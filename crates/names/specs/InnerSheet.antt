-- A sheet on which names are entered under keys, so that a name's number is found without going through all of them: how the code's contracts
-- say it. Names are numbered from 0 on in their order; the sheet writes 1 more than a number, and 0 for none.
-- Assumes nothing.
use Rattle.std.specs.Prelude.{ℕ, zero, suc, ◌+◌, ◌*◌, ◌%◌, ◌≤◌, ◌<◌, ◌≡◌, List, [], ◌∷◌, ◌++◌, true, false, cond, length, get_or, set, take, drop, eqb, ltb, Option, None, Some}
use Rattle.cells.specs.Spans.{leading}
use Rattle.names.specs.Names.{lower, same_name}
use Rattle.names.specs.InnerWalk.{no_comma}

-- names that are the same have the same key
unfoldable pub key_of : List ℕ → ℕ
key_of [] = 0
key_of (b ∷ bs) = (suc (length bs) + 20 * lower b) % 64

-- 1 more than the number of the last of the first i names that has the key, or 0
unfoldable pub latest : List (List ℕ) → ℕ → ℕ → ℕ
latest ns k zero = 0
latest ns k (suc i) = cond (eqb (key_of (get_or ns i [])) k) (suc i) (latest ns k i)

-- the name of a run that starts at index at
unfoldable pub name_at : List ℕ → ℕ → List ℕ
name_at run at = take (leading no_comma (drop at run)) (drop at run)

-- where a name starts: in the known names, or, 1024 further on, in the extra ones
abbrev pub run_of : List ℕ → List ℕ → ℕ → List ℕ
run_of known extra start = cond (ltb start 1024) known extra

abbrev pub named : List ℕ → List ℕ → ℕ → List ℕ
named known extra start = name_at (run_of known extra start) (start % 1024)

abbrev pub Start : List ℕ → List ℕ → ℕ → Type 0
Start known extra start = (start < 2048) × (start % 1024 ≤ length (run_of known extra start))

-- what a sheet says: for each key the last name that has it; for each name the one before it that has its key; and where each name starts
pub record Sheet (known extra sheet : List ℕ) (ns : List (List ℕ)) : Type 0 where
  pub size : length sheet ≡ 192
  pub few : length ns ≤ 64
  pub heads : (k : ℕ) → k < 64 → get_or sheet k 0 ≡ latest ns k (length ns)
  pub links : (i : ℕ) → i < length ns → get_or sheet (64 + i) 0 ≡ latest ns (key_of (get_or ns i [])) i
  pub starts : (i : ℕ) → i < length ns → Start known extra (get_or sheet (128 + i) 0)
  pub names : (i : ℕ) → i < length ns → named known extra (get_or sheet (128 + i) 0) ≡ get_or ns i []

-- some names stand on it
pub record Entered (known extra sheet : List ℕ) : Type 0 where
  pub names : List (List ℕ)
  pub are : Sheet known extra sheet names

-- the name has this number among some
pub record BearsNumber (ns : List (List ℕ)) (name : List ℕ) (r : ℕ) : Type 0 where
  pub within : r < length ns
  pub bears : same_name name (get_or ns r []) ≡ true

-- r is the number of the name among some, if it is one of them
abbrev pub NumberIs : List (List ℕ) → List ℕ → Option ℕ → Type 0
NumberIs ns name (Some r) = BearsNumber ns name r
NumberIs ns name None = (i : ℕ) → i < length ns → same_name name (get_or ns i []) ≡ false

-- and among those that stand on the sheet
abbrev pub NumberOn : List ℕ → List ℕ → List ℕ → List ℕ → Option ℕ → Type 0
NumberOn known extra sheet name r = (ns : List (List ℕ)) → Sheet known extra sheet ns → NumberIs ns name r

-- the names of a run start at base and on
abbrev pub From : List ℕ → List ℕ → List ℕ → ℕ → Type 0
From known extra run base = (at : ℕ) → at ≤ length run → Start known extra (base + at) × (named known extra (base + at) ≡ name_at run at)

-- names of a run are entered after count others
abbrev pub Enters : List ℕ → List (List ℕ) → ℕ → ℕ → List ℕ → List ℕ → Type 0
Enters run more base count sheet after =
    (known extra : List ℕ) (ns : List (List ℕ)) → From known extra run base → count ≡ length ns → Sheet known extra sheet ns → Sheet known extra after (ns ++ more)

-- a sheet with one name more: the key k, the i names before it, and where it starts
abbrev pub with_name : List ℕ → ℕ → ℕ → ℕ → List ℕ
with_name sheet k i start = set (set (set sheet (64 + i) (get_or sheet k 0)) (128 + i) start) k (i + 1)

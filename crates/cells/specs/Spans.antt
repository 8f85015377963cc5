-- Runs of bytes that all pass a test.
-- Assumes nothing.
use Rattle.std.specs.Prelude.{ℕ, suc, ◌+◌, ◌≤◌, ◌≡◌, List, [], ◌∷◌, Bool, true, cond, ◌&&◌, length, drop}

-- each element passes
unfoldable pub all : (ℕ → Bool) → List ℕ → Bool
all p [] = true
all p (x ∷ xs) = p x && all p xs

-- how many elements at the front pass
unfoldable pub leading : (ℕ → Bool) → List ℕ → ℕ
leading p [] = 0
leading p (x ∷ xs) = cond (p x) (suc (leading p xs)) 0

-- the elements of xs from index at on that pass end at index r
pub record Spans (p : ℕ → Bool) (xs : List ℕ) (at r : ℕ) : Type 0 where
  pub is : r ≡ at + leading p (drop at xs)
  pub within : r ≤ length xs

-- a search from index at on for the first element that fails has come to index i
pub record Passed (p : ℕ → Bool) (xs : List ℕ) (at i : ℕ) : Type 0 where
  pub from : at ≤ i
  pub within : i ≤ length xs
  pub same : at + leading p (drop at xs) ≡ i + leading p (drop i xs)

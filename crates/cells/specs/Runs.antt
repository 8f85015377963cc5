-- Byte runs: a part written over, and when two are the same.
-- Assumes nothing.
use Rattle.std.specs.Prelude.{ℕ, ◌-◌, ◌<◌, Bool, true, false, ◌&&◌, List, [], ◌∷◌, ◌++◌, eqb, length, get_or, take, drop}

-- xs with ys in the place of as many elements from index at on
unfoldable pub spliced : List ℕ → ℕ → List ℕ → List ℕ
spliced xs at ys = take at xs ++ (ys ++ drop (length ys) (drop at xs))

-- ys, and then what xs has after as many elements
unfoldable pub fronted : List ℕ → List ℕ → List ℕ
fronted ys xs = ys ++ drop (length ys) xs

-- the n elements of xs from index at on
abbrev pub part : List ℕ → ℕ → ℕ → List ℕ
part xs at n = take n (drop at xs)

-- those from index start up to index end
abbrev pub cut : List ℕ → ℕ → ℕ → List ℕ
cut xs start end = take (end - start) (drop start xs)

-- each element is below 256
abbrev pub Bytes : List ℕ → Type 0
Bytes xs = (i : ℕ) → get_or xs i 0 < 256

-- two runs are the same; runs of different lengths are told apart without a look at their bytes
unfoldable pub same : List ℕ → List ℕ → Bool
same [] [] = true
same [] (y ∷ ys) = false
same (x ∷ xs) [] = false
same (x ∷ xs) (y ∷ ys) = same xs ys && eqb x y

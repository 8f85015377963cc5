-- The lines of a log, and how many of them go under each status: document 02, K5.
-- Assumes nothing.
use Rattle.std.specs.Prelude.{ℕ, zero, suc, ◌+◌, List, [], ◌∷◌, Bool, cond, eqb}
use Rattle.logs.specs.Line.{line}

abbrev pub LF : ℕ
LF = 10

-- b at the front of the first line; where there is none, it begins one
abbrev pub before : ℕ → List (List ℕ) → List (List ℕ)
before b [] = (b ∷ []) ∷ []
before b (l ∷ ls) = (b ∷ l) ∷ ls

-- the lines: each ends at its line feed, and the bytes after the last line feed, if there are any, are one
unfoldable pub lines : List ℕ → List (List ℕ)
lines [] = []
lines (b ∷ text) = cond (eqb b LF) ([] ∷ lines text) (before b (lines text))

-- the first of n numbers from s on that passes, or 0
unfoldable pub first_of : (ℕ → Bool) → ℕ → ℕ → ℕ
first_of p s zero = 0
first_of p s (suc n) = cond (p s) s (first_of p (suc s) n)

-- the status from 100 to 599 that a line goes under, or 0: unread
unfoldable pub under : List ℕ → ℕ
under l = first_of (λ s. line s l) 100 500

-- how many of the lines go under s
unfoldable pub times : ℕ → List (List ℕ) → ℕ
times s [] = 0
times s (l ∷ ls) = cond (eqb (under l) s) 1 0 + times s ls

-- what f gives for n numbers from s on
unfoldable pub each : (ℕ → ℕ) → ℕ → ℕ → List ℕ
each f s zero = []
each f s (suc n) = f s ∷ each f (suc s) n

-- the counts by status, from 0 to 599: those unread stand at 0, and none at 1 to 99
unfoldable pub counts : List (List ℕ) → List ℕ
counts ls = each (λ s. times s ls) 0 600

unfoldable pub sum : List ℕ → ℕ
sum [] = 0
sum (n ∷ ns) = n + sum ns

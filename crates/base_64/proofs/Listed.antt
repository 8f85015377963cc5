-- A table that lists a function's values, entry by entry: antt computes the list and compares it whole, and one law reads an entry.
-- Assumes nothing.
use mathlib.Core.Path.{◌≡◌, ap, ◌∙◌}
use mathlib.Core.List.{List, [], ◌∷◌}
use Prim.Native.Nat.{ℕ, zero, suc, ◌+◌, ◌<◌}
use native.Mathlib.Nat.{zero-add, not-suc-le-zero, le_of_suc-le-suc}
use native.Mathlib.Omega.{arith}
use lib.ListN.{get_or}
use Rattle.base_64.specs.InnerSteps.{Lists}

-- the values of f at n numbers, counted up from i
unfoldable pub listed : (ℕ → ℕ) → ℕ → ℕ → List ℕ
listed f i zero = []
listed f i (suc n) = f i ∷ listed f (suc i) n

from : (f : ℕ → ℕ) (i n k : ℕ) → k < n → get_or (listed f i n) k 0 ≡ f (i + k)
unfolding listed
from f i zero k h = absurd (not-suc-le-zero h)
from f i (suc n) zero h = ap f (omega arith)
from f i (suc n) (suc k) h = from f (suc i) n k (le_of_suc-le-suc h) ∙ ap f (omega arith)

pub lists : (f : ℕ → ℕ) (n : ℕ) → Lists f n (listed f 0 n)
lists f n = record { at = λ k h. from f 0 n k h ∙ ap f (zero-add k) }

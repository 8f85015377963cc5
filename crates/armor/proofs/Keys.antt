-- A name is a key's exactly if its number is the key's place.
-- Assumes nothing.
use mathlib.Core.Path.{◌≡◌, refl, ap, subst, ◌∙◌}
use mathlib.Core.Logic.{◌↔◌}
use mathlib.Core.Bool.{true}
use mathlib.Core.List.{List, [], ◌∷◌}
use Prim.Native.Nat.{ℕ, zero, suc, ◌+◌, ◌<◌, ◌≤◌}
use native.Mathlib.Nat.{not-suc-le-zero, le_of_suc-le-suc}
use native.Mathlib.Omega.{arith}
use lib.Dec.{eqb}
use lib.ListN.{length, get_or}
use borrow.Author.Tests.{eqb-true, eqb-false}
use Rattle.armor.specs.Keys.{free, Key, key, keys, rank_of, key_number, name_at, key_t, key_lt, key_n, key_h, key_ah, key_r, key_s, key_c, key_iv, key_tag, key_eah}
use Rattle.cells.specs.Runs.{same}
use Rattle.cells.specs.Text.{codes}
use Rattle.cells.proofs.Equality.{same_equal}
use Rattle.cells.proofs.Tests.{tested}

-- what holds at n numbers from a on holds at each
abbrev pub From : (ℕ → Type 0) → ℕ → ℕ → Type 0
From P a zero = Unit
From P a (suc n) = P a × From P (suc a) n

pub from_at : (P : ℕ → Type 0) (a n : ℕ) → From P a n → (k : ℕ) → a ≤ k → k < a + n → P k
from_at P a zero h k low high = absurd (omega arith)
from_at P a (suc n) h k low high =
    tested (eqb a k) (λ e. subst P (eqb-true a k e) h.0)
    (λ e. let other : a ≡ k → ⊥ = eqb-false a k e in from_at P (suc a) n h.1 k (omega arith) (omega arith))

found : (ks : List Key) (x : List ℕ) → rank_of ks x < length ks → same x (get_or ks (rank_of ks x) (key "" free)).name ≡ true
unfolding rank_of
found [] x h = absurd (not-suc-le-zero h)
found (k ∷ ks) x h = tested (same x k.name) (λ e. rw e e) (λ e. rw e (found ks x (le_of_suc-le-suc (rw e at h))))

-- the names are apart
placed : (k : ℕ) → k < 11 → key_number (name_at k) ≡ k
unfolding key_number name_at keys rank_of same codes
placed k h =
    from_at (λ j. key_number (name_at j) ≡ j) 0 11 (omega arith) k (omega arith) (omega arith)

-- a name has a key's number exactly if it is that key's
pub names_exactly : (k : ℕ) (x : List ℕ) → k < 11 → (key_number x ≡ k) ↔ (x ≡ name_at k)
unfolding key_number name_at keys
names_exactly k x h = (
  λ e. same_equal x (name_at k) (subst (λ (j : ℕ). same x (name_at j) ≡ true) e (found keys x (rw e h))),
  λ e. ap key_number e ∙ placed k h,
)

-- the names by number
pub key_names : name_at key_t ∷ name_at key_lt ∷ name_at key_n ∷ name_at key_h ∷ name_at key_ah ∷ name_at key_r ∷ name_at key_s ∷ name_at key_c ∷ name_at key_iv ∷ name_at key_tag ∷ name_at key_eah ∷ []
    ≡ codes "t" ∷ codes "lt" ∷ codes "n" ∷ codes "h" ∷ codes "ah" ∷ codes "r" ∷ codes "s" ∷ codes "c" ∷ codes "iv" ∷ codes "tag" ∷ codes "eah" ∷ []
unfolding name_at keys
key_names = refl

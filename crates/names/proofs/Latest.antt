-- Laws of the last name that has a key: what is skipped has another key, and names that come after change nothing.
-- Assumes nothing.
use mathlib.Core.Path.{◌≡◌, refl}
use mathlib.Core.List.{List, [], ◌++◌}
use mathlib.Core.Bool.{Bool, true, false, cond}
use Prim.Native.Nat.{ℕ, zero, suc, ◌-◌, ◌≤◌, ◌<◌}
use native.Mathlib.Omega.{arith}
use borrow.Author.Count.{below_more}
use borrow.Author.Tests.{eqb-true, eqb-false}
use lib.Dec.{eqb}
use lib.ListN.{length, get_or, get_or-append}
use Rattle.cells.proofs.Tests.{tested}
use Rattle.names.specs.InnerSheet.{key_of, latest}

module _ (ns : List (List ℕ)) (k : ℕ) where
  pub latest_few : (i : ℕ) → latest ns k i ≤ i
  unfolding latest
  latest_few zero = omega arith
  latest_few (suc i) =
      let before = latest_few i in
      elim (eqb (key_of (get_or ns i [])) k) as (λ (t : Bool). cond t (suc i) (latest ns k i) ≤ suc i) [ true ↦ omega arith | false ↦ omega arith ]

  -- it has the key
  pub latest_key : (i : ℕ) → 1 ≤ latest ns k i → key_of (get_or ns (latest ns k i - 1) []) ≡ k
  unfolding latest
  latest_key zero h = absurd (omega arith)
  latest_key (suc i) h =
      let last : suc i - 1 ≡ i = omega arith in
      tested (eqb (key_of (get_or ns i [])) k) (λ is. rw (is, last) (eqb-true _ k is)) (λ other. rw other (latest_key i (rw other at h)))

  -- none after it has
  pub latest_skips : (i j : ℕ) → j < i → latest ns k i ≤ j → key_of (get_or ns j []) ≡ k → ⊥
  unfolding latest
  latest_skips zero j g h e = omega arith
  latest_skips (suc i) j g h e =
      tested (eqb (key_of (get_or ns i [])) k) (λ is. omega (arith, rw is at h))
      (λ other. below_more _ i (latest_skips i) (λ l. eqb-false _ k other) j (omega arith) (rw other at h) e)

  pub latest_append : (more : List (List ℕ)) (i : ℕ) → i ≤ length ns → latest (ns ++ more) k i ≡ latest ns k i
  unfolding latest
  latest_append more zero h = refl
  latest_append more (suc i) h = rw (get_or-append ns more [] i (omega arith), latest_append more i (omega arith))

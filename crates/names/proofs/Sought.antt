-- The search for a name on a sheet: it goes through the names that have its key, from the last to the first, so none that is passed is the same.
-- Assumes nothing.
use mathlib.Core.Path.{◌≡◌, refl, sym, ap, ◌∙◌}
use mathlib.Core.List.{List, [], ◌∷◌}
use mathlib.Core.Bool.{true, false, false≢true}
use Prim.Native.Nat.{ℕ, ◌+◌, ◌-◌, ◌≤◌, ◌<◌}
use native.Mathlib.Omega.{arith}
use borrow.Author.Tests.{eqb-true, eqb-false, ltb-true, ltb-false}
use lib.Dec.{eqb, ltb}
use lib.ListN.{length, get_or, length-map}
use Rattle.cells.proofs.Tests.{tested, both}
use Rattle.names.specs.Names.{lower, same_name}
use Rattle.names.specs.InnerSheet.{key_of, latest, named, Sheet, BearsNumber}
use Rattle.names.proofs.Same.{lowered_equal}
use Rattle.names.proofs.Latest.{latest_few, latest_key, latest_skips}

same_key : (a b : List ℕ) → same_name a b ≡ true → key_of a ≡ key_of b
unfolding key_of same_name
same_key [] [] e = refl
same_key [] (y ∷ ys) e = absurd (false≢true e)
same_key (x ∷ xs) [] e = absurd (false≢true e)
same_key (x ∷ xs) (y ∷ ys) e =
    let parts = both (eqb (lower x) (lower y)) (same_name xs ys) e in
    let sizes : length xs ≡ length ys = sym (length-map xs lower) ∙ ap length (lowered_equal xs ys parts.1) ∙ length-map ys lower in
    rw (sizes, eqb-true (lower x) (lower y) parts.0)

other_key_lem : (a b : List ℕ) → (key_of b ≡ key_of a → ⊥) → same_name a b ≡ false
other_key_lem a b h = tested (same_name a b) (λ e. absurd (h (sym (same_key a b e)))) (λ e. e)

-- the search has come to an entry, 1 more than a name's number: a name that it passed is not the one sought, and the next one has its key
pub record Sought (ns : List (List ℕ)) (name : List ℕ) (entry : ℕ) : Type 0 where
  pub within : entry ≤ length ns
  pub passed : (j : ℕ) → entry ≤ j → j < length ns → same_name name (get_or ns j []) ≡ false
  pub key : 1 ≤ entry → key_of (get_or ns (entry - 1) []) ≡ key_of name

-- among the first i names, once the others are passed
sought_below : (ns : List (List ℕ)) (name : List ℕ) (i : ℕ) → i ≤ length ns → ((j : ℕ) → i ≤ j → j < length ns → same_name name (get_or ns j []) ≡ false)
    → Sought ns name (latest ns (key_of name) i)
sought_below ns name i h after =
    record {
      within = omega (arith, latest_few ns (key_of name) i);
      passed = λ j l r.
          tested (ltb j i) (λ t. other_key_lem name (get_or ns j []) (latest_skips ns (key_of name) i j (ltb-true j i t) l))
          (λ t. after j (ltb-false j i t) r);
      key = latest_key ns (key_of name) i;
    }

pub sought_first : {known extra sheet : List ℕ} {ns : List (List ℕ)} (name : List ℕ) {k : ℕ} → Sheet known extra sheet ns → (k ≡ key_of name) × (k < 64)
    → Sought ns name (get_or sheet k 0)
sought_first {ns} name {k} on h = rw (on.heads k h.1, h.0) (sought_below ns name (length ns) (omega arith) (λ j l r. absurd (omega arith)))

-- what the sheet says of the name that the search has come to
module _ {known extra sheet : List ℕ} {ns : List (List ℕ)} (on : Sheet known extra sheet ns) {name : List ℕ} {entry : ℕ} (s : Sought ns name entry)
    (some : 1 ≤ entry) where
  bears_is : same_name name (named known extra (get_or sheet (128 + (entry - 1)) 0)) ≡ same_name name (get_or ns (entry - 1) [])
  bears_is = rw (on.names (entry - 1) (omega (arith, s.within)))

  pub sought_found : same_name name (named known extra (get_or sheet (128 + (entry - 1)) 0)) ≡ true → BearsNumber ns name (entry - 1)
  sought_found e = record { within = omega (arith, s.within); bears = sym bears_is ∙ e }

  link_is : get_or sheet (64 + (entry - 1)) 0 ≡ latest ns (key_of name) (entry - 1)
  link_is = on.links (entry - 1) (omega (arith, s.within)) ∙ ap (λ (k : ℕ). latest ns k (entry - 1)) (s.key some)

  pub sought_less : get_or sheet (64 + (entry - 1)) 0 < entry
  sought_less = omega (arith, link_is, latest_few ns (key_of name) (entry - 1))

  pub sought_next : same_name name (named known extra (get_or sheet (128 + (entry - 1)) 0)) ≡ false → Sought ns name (get_or sheet (64 + (entry - 1)) 0)
  sought_next e =
      rw link_is (sought_below ns name (entry - 1) (omega (arith, s.within)) (λ j l r.
      tested (eqb j (entry - 1)) (λ t. rw (eqb-true j (entry - 1) t) (sym bears_is ∙ e))
      (λ t. let other = eqb-false j (entry - 1) t in s.passed j (omega arith) r)))

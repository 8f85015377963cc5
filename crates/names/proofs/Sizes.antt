-- Good extra names are short and few, and so are the covered names few.
-- Assumes nothing.
use mathlib.Core.Path.{◌≡◌, refl}
use mathlib.Core.List.{List, [], ◌∷◌}
use mathlib.Core.Bool.{Bool, true, false, cond, ◌&&◌, and-eq-true_iff}
use Prim.Native.Nat.{ℕ, suc, ◌+◌, ◌/◌, ◌%◌, ◌≤◌}
use native.Mathlib.Omega.{arith}
use borrow.Author.Tests.{leb-true}
use lib.Dec.{leb, eqb}
use lib.ListN.{length, length-append}
use Rattle.names.specs.Names.{header_names}
use Rattle.names.specs.Extra.{comma, onto_first, names_in, extra_names, good_names, good_extra}
use Rattle.names.specs.Covered.{chosen_first, chosen, covered_names}

-- they are at most 128 bytes and at most eight
module _ (run : List ℕ) (h : good_extra run ≡ true) where
  sizes : (leb (length run) 128 ≡ true) × (leb (length (extra_names run)) 8 ≡ true)
  unfolding good_extra
  sizes =
      (and-eq-true_iff (leb (length run) 128) (leb (length (extra_names run)) 8)).0
      ((and-eq-true_iff (leb (length run) 128 && leb (length (extra_names run)) 8) (good_names (extra_names run))).0 h).0

  pub short_extra : length run ≤ 128
  short_extra = leb-true _ _ sizes.0

  pub few_names : length (extra_names run) ≤ 8
  few_names = leb-true _ _ sizes.1

-- a run has at most one name more than bytes
pub no_more : (run : List ℕ) → length (names_in run) ≤ length run + 1
unfolding names_in
no_more [] = omega arith
no_more (b ∷ bs) = elim (eqb b comma) as (λ (t : Bool). length (cond t ([] ∷ names_in bs) (onto_first b (names_in bs))) ≤ suc (length bs) + 1) [
  | true ↦ omega (arith, no_more bs)
  | false ↦ first_put (names_in bs) (no_more bs)
]
  where
    first_put : (ns : List (List ℕ)) → length ns ≤ length bs + 1 → length (onto_first b ns) ≤ suc (length bs) + 1
    first_put [] h = omega arith
    first_put (n ∷ ns) h = omega arith

pub few_extra : (run : List ℕ) → length (extra_names run) ≤ length run + 1
unfolding extra_names
few_extra [] = omega arith
few_extra (b ∷ bs) = no_more (b ∷ bs)

chosen_few : (bits : ℕ) (ns : List (List ℕ)) → length (chosen bits ns) ≤ length ns
unfolding chosen
chosen_few bits [] = omega arith
chosen_few bits (n ∷ ns) =
    let rest = chosen_few (bits / 2) ns in
    elim (eqb (bits % 2) 1) as (λ (b : Bool). length (chosen_first b n (chosen (bits / 2) ns)) ≤ suc (length ns)) [ true ↦ omega arith | false ↦ omega arith ]

pub known_names : length header_names ≡ 55
unfolding header_names
known_names = refl

pub names_few : (mask : ℕ) (extra : List ℕ) → good_extra extra ≡ true → length (covered_names mask extra) ≤ 63
unfolding covered_names
names_few mask extra h =
    omega (arith, length-append (chosen (mask / 2) header_names) (extra_names extra), chosen_few (mask / 2) header_names, few_names extra h, known_names)

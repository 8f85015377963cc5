-- A run is its names with commas between them, so its names determine it.
-- Assumes nothing.
use mathlib.Core.Path.{◌≡◌, refl, sym, ap, ap₂, ◌∙◌}
use mathlib.Core.Bool.{Bool, true, false, cond}
use mathlib.Core.List.{List, [], ◌∷◌, ◌++◌}
use Prim.Native.Nat.{ℕ, ◌≤◌}
use native.Mathlib.Omega.{arith}
use borrow.Author.Tests.{eqb-true}
use lib.Dec.{eqb, lit≤}
use lib.ListN.{length}
use Rattle.cells.specs.Text.{codes}
use Rattle.names.specs.Names.{header_names}
use Rattle.names.specs.Extra.{comma, onto_first, names_in}
use Rattle.names.specs.InnerWalk.{Known}

-- names with commas between them
abbrev pub rejoined : List (List ℕ) → List ℕ
rejoined [] = []
rejoined (p ∷ []) = p
rejoined (p ∷ q ∷ ps) = p ++ (comma ∷ rejoined (q ∷ ps))

-- a byte put before the first name, and an empty name before the others
first_name : (b : ℕ) (ps : List (List ℕ)) → rejoined (onto_first b ps) ≡ b ∷ rejoined ps
first_name b [] = refl
first_name b (p ∷ []) = refl
first_name b (p ∷ q ∷ ps) = refl

new_name : (ps : List (List ℕ)) → 1 ≤ length ps → rejoined ([] ∷ ps) ≡ comma ∷ rejoined ps
new_name [] h = absurd (omega arith)
new_name (p ∷ ps) h = refl

-- there is one at least
some_name : (bs : List ℕ) → 1 ≤ length (names_in bs)
unfolding names_in
some_name [] = lit≤ tt
some_name (b ∷ bs) = by (eqb b comma) (names_in bs)
  where
    by : (t : Bool) (ps : List (List ℕ)) → 1 ≤ length (cond t ([] ∷ ps) (onto_first b ps))
    by true ps = omega arith
    by false [] = lit≤ tt
    by false (p ∷ ps) = omega arith

pub names_in_joined : (bs : List ℕ) → rejoined (names_in bs) ≡ bs
unfolding names_in
names_in_joined [] = refl
names_in_joined (b ∷ bs) = by (eqb b comma) refl (names_in_joined bs)
  where
    by : (t : Bool) → eqb b comma ≡ t → rejoined (names_in bs) ≡ bs → rejoined (cond t ([] ∷ names_in bs) (onto_first b (names_in bs))) ≡ b ∷ bs
    by true e rest = new_name (names_in bs) (some_name bs) ∙ ap₂ ◌∷◌ (sym (eqb-true b comma e)) rest
    by false e rest = first_name b (names_in bs) ∙ ap (λ (l : List ℕ). b ∷ l) rest

names_in_injective : (a b : List ℕ) → names_in a ≡ names_in b → a ≡ b
names_in_injective a b e = sym (names_in_joined a) ∙ ap rejoined e ∙ names_in_joined b

-- so what `known` answers leaves no choice
pub known_determined : (a b : List ℕ) → Known a → Known b → a ≡ b
known_determined a b p q = names_in_injective a b (p ∙ sym q)

pub known_size : (run : List ℕ) → Known run → length run ≡ 632
unfolding header_names codes
known_size run h = sym (ap length (names_in_joined run)) ∙ ap (λ (ns : List (List ℕ)). length (rejoined ns)) h

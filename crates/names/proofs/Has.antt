-- Laws of a name that is one of some names.
-- Assumes nothing.
use mathlib.Core.Path.{◌≡◌, refl, sym, ◌∙◌}
use mathlib.Core.List.Memᴰ
use mathlib.Core.List.{List, [], ◌∷◌, ◌++◌, Memᴰ}
use mathlib.Core.Logic.{⊎_elim}
use mathlib.Core.Bool.{Bool, true, false, false≢true, ◌&&◌, ◌||◌, or_assoc, or-true}
use Prim.Native.Nat.{ℕ, zero, suc, ◌/◌, ◌%◌, ◌<◌}
use native.Mathlib.Omega.{arith}
use lib.Dec.{eqb}
use lib.ListN.{length, get_or}
use Rattle.std.specs.List.{list_any}
use Rattle.cells.proofs.Tests.{tested, both}
use Rattle.names.specs.Names.{same_name, has_name}
use Rattle.names.specs.Covered.{chosen_first, chosen}
use Rattle.names.proofs.Same.{same_right, same_itself}

pub neither : (a b : Bool) → (a || b) ≡ false → (a ≡ false) × (b ≡ false)
neither true b e = absurd (false≢true (sym e))
neither false b e = (refl, e)

pub has_any : (ns : List (List ℕ)) (name : List ℕ) → list_any (λ n. same_name n name) ns ≡ has_name ns name
unfolding has_name
has_any [] name = refl
has_any (n ∷ ns) name = rw (has_any ns name) refl

pub has_same : (ns : List (List ℕ)) (a b : List ℕ) → same_name a b ≡ true → has_name ns a ≡ has_name ns b
unfolding has_name
has_same [] a b e = refl
has_same (n ∷ ns) a b e = rw (same_right n a b e, has_same ns a b e)

pub has_append : (ns more : List (List ℕ)) (name : List ℕ) → has_name (ns ++ more) name ≡ (has_name ns name || has_name more name)
unfolding has_name
has_append [] more name = refl
has_append (n ∷ ns) more name = rw (has_append ns more name) (sym (or_assoc (same_name n name) (has_name ns name) (has_name more name)))

-- what is one of the chosen names is one of all
pub has_chosen : (bits : ℕ) (ns : List (List ℕ)) (name : List ℕ) → has_name (chosen bits ns) name ≡ true → has_name ns name ≡ true
unfolding has_name chosen
has_chosen bits [] name h = h
has_chosen bits (n ∷ ns) name h =
    tested (same_name n name) (λ e. rw e) (λ e. rw e (has_chosen (bits / 2) ns name (rest (eqb (bits % 2) 1) (chosen (bits / 2) ns) e h)))
  where
    rest : (t : Bool) (others : List (List ℕ)) → same_name n name ≡ false → has_name (chosen_first t n others) name ≡ true → has_name others name ≡ true
    rest true others e g = rw e at g
    rest false others e g = g

pub has_member : (ns : List (List ℕ)) (name : List ℕ) → Memᴰ name ns → has_name ns name ≡ true
unfolding has_name
has_member [] name m = absurd (Memᴰ.not-nil m)
has_member (n ∷ ns) name m =
    ⊎_elim (λ e. rw (← e, same_itself name)) (λ r. rw (has_member ns name r) (or-true (same_name n name))) (Memᴰ.cases_cons m)

-- so where it is none of them, it is not the one at an index
pub has_not : (ns : List (List ℕ)) (name : List ℕ) → has_name ns name ≡ false → (j : ℕ) → j < length ns → same_name (get_or ns j []) name ≡ false
unfolding has_name
has_not [] name h j l = absurd (omega arith)
has_not (n ∷ ns) name h zero l = (neither (same_name n name) (has_name ns name) h).0
has_not (n ∷ ns) name h (suc j) l = has_not ns name (neither (same_name n name) (has_name ns name) h).1 j (omega arith)

-- each of some names is one of others, as antt computes it
abbrev pub among : List (List ℕ) → List (List ℕ) → Bool
among [] others = true
among (n ∷ ns) others = has_name others n && among ns others

pub among_has : (ns others : List (List ℕ)) → among ns others ≡ true → (name : List ℕ) → has_name ns name ≡ true → has_name others name ≡ true
unfolding has_name
among_has [] others t name h = absurd (false≢true h)
among_has (n ∷ ns) others t name h =
    let parts = both (has_name others n) (among ns others) t in
    tested (same_name n name) (λ e. sym (has_same others n name e) ∙ parts.0) (λ e. among_has ns others parts.1 name (rw e at h))

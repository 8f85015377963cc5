-- The size of a text, by its first group and what follows that.
-- Assumes nothing.
use mathlib.Core.Path.{◌≡◌, refl, sym, ap, ◌∙◌}
use mathlib.Core.Bool.{Bool, true, false, cond, not, ◌&&◌}
use mathlib.Core.List.{List, [], ◌∷◌, ◌++◌}
use Prim.Native.Nat.{ℕ, ◌+◌, ◌<◌, ◌≤◌}
use native.Mathlib.Omega.{arith}
use lib.Dec.{eqb}
use lib.ListN.{length, take, drop, length-append}
use Rattle.std.proofs.Common.{take-append-drop}
use borrow.Author.Tests.{ne_eqb}
use Rattle.std.specs.Prelude.{Option, Some, None}
use Rattle.base_64.specs.Alphabet.{pad}
use Rattle.base_64.specs.Decoding.{Decoding, nothing, bytes, pick, before, last, coded, full, three, two, one, ending, decoded}
use Rattle.base_64.specs.InnerAnswers.{size_of, measured}
use Rattle.base_64.specs.InnerSteps.{plus, size_first}

-- a group's bytes, if it is one, and what follows it
abbrev pub counted : Option ℕ → Option ℕ → Option ℕ
counted None m = None
counted (Some n) m = plus n m

by_full : (f : Bool) (n : ℕ) (k : Option ℕ) (d e : Decoding) → size_of e ≡ counted k (size_of d)
    → size_of (pick f (before (three n) d) e) ≡ counted (cond f (Some 3) k) (size_of d)
by_full true n k nothing e h = refl
by_full true n k (bytes bs) e h = ap Some (omega arith)
by_full false n k d e h = h

by_last : (s r o t : Bool) (m n : ℕ) (rest : List ℕ)
    → size_of (last (pick s (pick r (pick o (bytes (take 1 (three m))) nothing) (pick t (bytes (take 2 (three n))) nothing)) nothing) rest)
    ≡ counted (cond (eqb (length rest) 0 && (s && (r && o))) (Some 1) (cond (eqb (length rest) 0 && (s && (not r && t))) (Some 2) None)) (size_of (decoded rest))
unfolding decoded
by_last s r o t m n (c ∷ cs) = rw (ne_eqb (length (c ∷ cs)) 0 (λ e. omega arith))
by_last false r o t m n [] = refl
by_last true true true t m n [] = refl
by_last true true false t m n [] = refl
by_last true false o true m n [] = refl
by_last true false o false m n [] = refl

-- a text of a group at least
by_four : (p q r s : ℕ) (rest : List ℕ)
    → measured (p ∷ q ∷ r ∷ s ∷ rest) ≡ counted (size_first (p ∷ q ∷ r ∷ s ∷ []) (eqb (length rest) 0)) (measured rest)
unfolding measured decoded full ending one two coded
by_four p q r s rest = by_full (full p q r s) _ _ (decoded rest) _ (by_last (eqb s pad) (eqb r pad) _ _ _ _ rest)

by_group : (group rest : List ℕ) → length group ≡ 4 → measured (group ++ rest) ≡ counted (size_first group (eqb (length rest) 0)) (measured rest)
by_group (p ∷ q ∷ r ∷ s ∷ []) rest h = by_four p q r s rest
by_group [] rest h = absurd (omega arith)
by_group (p ∷ []) rest h = absurd (omega arith)
by_group (p ∷ q ∷ []) rest h = absurd (omega arith)
by_group (p ∷ q ∷ r ∷ []) rest h = absurd (omega arith)
by_group (p ∷ q ∷ r ∷ s ∷ t ∷ l) rest h = absurd (omega arith)

few : (f o t : Bool) (k : ℕ) → cond f (Some 3) (cond o (Some 1) (cond t (Some 2) None)) ≡ Some k → k ≤ 3
few true o t k e = let is : 3 ≡ k = cc in omega arith
few false true t k e = let is : 1 ≡ k = cc in omega arith
few false false true k e = let is : 2 ≡ k = cc in omega arith
few false false false k e = absurd (let z : ◌≡◌ {A = ℕ} 0 1 = cc in omega arith)

pub size_few : (group : List ℕ) (last : Bool) (k : ℕ) → size_first group last ≡ Some k → k ≤ 3
size_few group last k e = few _ _ _ k e

-- a group off the front of what is left of a text
pub counts : (text group left rest : List ℕ) (n : ℕ) (last : Bool) (k : Option ℕ) → measured text ≡ plus n (measured left) → group ≡ take 4 left → rest ≡ drop 4 left
    → length rest + 4 ≡ length left → last ≡ eqb (length rest) 0 → k ≡ size_first group last → measured text ≡ plus n (counted k (measured rest))
counts text group left rest n last k before taken dropped long end is =
    let whole : left ≡ group ++ rest = rw (taken, dropped) (sym (take-append-drop 4 left)) in
    before ∙ ap (λ (l : List ℕ). plus n (measured l)) whole
    ∙ ap (plus n) (by_group group rest (omega (arith, ap length whole, length-append group rest)))
    ∙ ap (λ (s : Option ℕ). plus n (counted s (measured rest))) (sym (is ∙ ap (size_first group) end))

-- and one of less
by_none : (l : List ℕ) → length l < 4 → measured l ≡ cond (eqb (length l) 0) (Some 0) None
unfolding measured decoded
by_none [] h = refl
by_none (p ∷ []) h = refl
by_none (p ∷ q ∷ []) h = refl
by_none (p ∷ q ∷ r ∷ []) h = refl
by_none (p ∷ q ∷ r ∷ s ∷ rest) h = absurd (omega arith)

pub ends : (l : List ℕ) (t : Bool) → length l < 4 → t ≡ eqb (length l) 0 → measured l ≡ cond t (Some 0) None
ends l t h e = by_none l h ∙ ap (λ (u : Bool). cond u (Some 0) None) (sym e)

pub plus_plus : (m n : ℕ) (s : Option ℕ) → plus m (plus n s) ≡ plus (m + n) s
plus_plus m n None = refl
plus_plus m n (Some k) = ap Some (omega arith)

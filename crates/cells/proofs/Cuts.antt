-- Laws of parts of a run.
-- Assumes nothing.
use mathlib.Core.Path.{◌≡◌, refl, sym, ap, ap₂, ◌∙◌}
use mathlib.Core.List.{List, [], ◌∷◌, ◌++◌}
use Prim.Native.Nat.{ℕ, zero, suc, ◌+◌, ◌-◌, ◌≤◌, ◌<◌}
use native.Mathlib.Nat.{add-zero}
use native.Mathlib.Numerals.{add-one}
use native.Mathlib.Decide.{dec_lt}
use native.Mathlib.Omega.{arith}
use lib.ListN.{get_or-eq_default, length, get_or, take, drop, take-append-drop, length-take, length-drop}
use lib.Seq.{take_all, drop-cons, drop-drop, drop_at as drop-append, take-add, take-take, get_or-take, get_or-drop, length-take-le}
use Rattle.cells.specs.Runs.{part, cut, Bytes}

pub length_cut : (xs : List ℕ) (a e : ℕ) → e ≤ length xs → length (cut xs a e) ≡ e - a
length_cut xs a e h = length-take-le (e - a) (drop a xs) (omega (arith, length-drop a xs))

-- a part, and what stands after it
pub cut_split : (xs : List ℕ) (a e : ℕ) → a ≤ e → drop a xs ≡ cut xs a e ++ drop e xs
cut_split xs a e h =
    let end : a + (e - a) ≡ e = omega arith in
    sym (take-append-drop (e - a) (drop a xs)) ∙ rw (drop-drop (e - a) a xs, end)

-- the part up to the end
pub cut_rest : (xs : List ℕ) (a : ℕ) → cut xs a (length xs) ≡ drop a xs
cut_rest xs a = take_all (length xs - a) (drop a xs) (omega (arith, length-drop a xs))

pub drop_take : (xs : List ℕ) (a e : ℕ) → a ≤ e → e ≤ length xs → drop a (take e xs) ≡ cut xs a e
drop_take xs a e h k =
    let end : e ≡ a + (e - a) = omega arith in
    ap (λ (n : ℕ). drop a (take n xs)) end ∙ ap (drop a) (take-add a (e - a) xs) ∙ drop-append (take a xs) (cut xs a e) a (length-take-le a xs (omega arith))

-- past the end stands a 0
pub inside : (xs : List ℕ) (i : ℕ) → (get_or xs i 0 ≡ 0 → ⊥) → i < length xs
inside [] i h = absurd (h refl)
inside (x ∷ xs) zero h = omega arith
inside (x ∷ xs) (suc i) h = omega (arith, inside xs i h)

-- a byte that is not 0 stands within, and the bytes from it on begin with it
pub drop_at : (xs : List ℕ) (i b : ℕ) → get_or xs i 0 ≡ b → (b ≡ 0 → ⊥) → drop i xs ≡ b ∷ drop (i + 1) xs
drop_at xs i b e h =
    drop-cons xs i 0 (inside xs i (λ z. h (sym e ∙ z))) ∙ ap₂ (λ (c n : ℕ). c ∷ drop n xs) e (sym (add-one i))

-- the element at an index, and those after it
module _ (xs ys : List ℕ) (i y : ℕ) (e : drop i xs ≡ y ∷ ys) where
  pub stands : get_or xs i 0 ≡ y
  stands = ap (λ (k : ℕ). get_or xs k 0) (sym (add-zero i)) ∙ sym (get_or-drop i xs 0 0) ∙ ap (λ (l : List ℕ). get_or l 0 0) e

  pub onward : drop (i + 1) xs ≡ ys
  onward = sym (drop-drop 1 i xs) ∙ ap (drop 1) e

-- a part of a part
pub part_part : (xs : List ℕ) (at n k m : ℕ) → at + n ≤ length xs → k + m ≤ n → part (part xs at n) k m ≡ part xs (at + k) m
part_part xs at n k m h j =
    ap (take m) (drop_take (drop at xs) k n (omega arith) (omega (arith, length-drop at xs)))
    ∙ take-take m (n - k) (drop k (drop at xs)) (omega arith)
    ∙ ap (take m) (drop-drop k at xs)

-- a part of a run of bytes is one
pub bytes_part : (xs : List ℕ) (at n : ℕ) → Bytes xs → Bytes (part xs at n)
bytes_part xs at n h i = elim (dec_lt i n) [
  | yes l ↦ rw (get_or-take n (drop at xs) i 0 l, get_or-drop at xs i 0) (h (at + i))
  | no l ↦ rw (get_or-eq_default (part xs at n) 0 {n = i} (rw length-take (omega arith))) (omega arith)
]

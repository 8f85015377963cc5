-- Laws of byte runs with a part written over, for any runs and places.
-- Assumes nothing.
use mathlib.Core.Path.{◌≡◌, refl, sym, ap, ◌∙◌}
use mathlib.Core.List.{List, [], ◌∷◌, ◌++◌, append_assoc, append-nil}
use Prim.Native.Nat.{ℕ, zero, suc, ◌+◌, ◌-◌, ◌≤◌, ◌<◌}
use native.Mathlib.Nat.{zero-add, add-suc, add_assoc}
use native.Mathlib.Numerals.{add-one}
use native.Mathlib.Omega.{arith}
use lib.ListN.{length, get_or, take, drop, set, length-append, length-take, length-drop, drop_of_length-le}
use lib.Seq.{paste, paste-suc, take_all, sets, sets-eq, take_at, drop_at, drop-cons, drop-drop, length-take-le}
use Rattle.cells.specs.Runs.{spliced, fronted, part}

-- stores one after the other, from a place on, are a splice
pub stored : (xs ys : List ℕ) (at : ℕ) → at + length ys ≤ length xs → sets xs at ys ≡ spliced xs at ys
unfolding spliced
stored xs ys at h = sets-eq ys xs at h ∙ simp (append_assoc, drop-drop)

-- what a part that was lent as `&mut` leaves: left is what stands there afterwards, and ys what the callee's contract says
pub lent : (xs ys : List ℕ) (a e : ℕ) {left : List ℕ} → left ≡ ys → e - a ≡ length ys
    → take a xs ++ (left ++ drop (e - a) (drop a xs)) ≡ spliced xs a ys
unfolding spliced
lent xs ys a e p q = rw (q, p)

pub length_spliced : (xs ys : List ℕ) (at : ℕ) → at + length ys ≤ length xs → length (spliced xs at ys) ≡ length xs
unfolding spliced
length_spliced xs ys at h = simp (length-append, length-take, length-drop) (omega arith)

pub length_fronted : (ys xs : List ℕ) → length ys ≤ length xs → length (fronted ys xs) ≡ length xs
unfolding fronted
length_fronted ys xs h = simp (length-append, length-drop) (omega arith)

pub length_part : (xs : List ℕ) (at n : ℕ) → at + n ≤ length xs → length (part xs at n) ≡ n
length_part xs at n h = simp (length-take, length-drop) (omega arith)

-- a splice at the front
pub spliced_front : (xs ys : List ℕ) → spliced xs 0 ys ≡ fronted ys xs
unfolding spliced fronted
spliced_front xs ys = refl

-- a splice of all there is
pub fronted_whole : (ys xs : List ℕ) → length ys ≡ length xs → fronted ys xs ≡ ys
unfolding fronted
fronted_whole ys xs h = rw (drop_of_length-le xs {i = length ys} (omega arith)) (append-nil ys)

-- what stands up to the end of a splice
pub front_spliced : (xs ys : List ℕ) (at n : ℕ) → at ≤ length xs → n ≡ at + length ys → take n (spliced xs at ys) ≡ take at xs ++ ys
unfolding spliced
front_spliced xs ys at n h e =
    ap (take n) (sym (append_assoc (take at xs) ys _))
    ∙ take_at (take at xs ++ ys) _ n (length-append (take at xs) ys ∙ omega (arith, length-take-le at xs h))

-- two splices side by side are one
pub joined : (xs ys zs : List ℕ) (at next : ℕ) → at + length ys + length zs ≤ length xs → next ≡ at + length ys
    → spliced (spliced xs at ys) next zs ≡ spliced xs at (ys ++ zs)
unfolding spliced
joined xs ys zs at next h e =
    let front = take at xs ++ ys in
    let rest = drop (length ys) (drop at xs) in
    let seam : length front ≡ next = length-append (take at xs) ys ∙ omega (arith, length-take at xs) in
    let regrouped : take at xs ++ (ys ++ rest) ≡ front ++ rest = simp append_assoc in
    rw (regrouped, take_at front rest next seam, drop_at front rest next seam)
    (simp (append_assoc, drop-drop, length-append, add_assoc))

-- a turn of a loop that copies to the front, and its end
pub copied_more : (d s : List ℕ) (j : ℕ) {l : List ℕ} → l ≡ paste d 0 s j → j < length d → j < length s
    → set l j (get_or s j 0) ≡ paste d 0 s (j + 1)
copied_more d s j e p q =
    ap (λ (k : List ℕ). set k j (get_or s j 0)) e ∙ rw (add-one, ← (paste-suc d 0 s j 0 (omega arith) q), zero-add)

pub copied_all : (d s : List ℕ) (j : ℕ) → j ≡ length s → paste d 0 s j ≡ fronted s d
unfolding fronted
copied_all d s j e = rw (take_all j s (omega arith), zero-add, e)

-- n elements from index at + k on, one by one
abbrev pub listed : List ℕ → ℕ → ℕ → ℕ → List ℕ
listed xs at k zero = []
listed xs at k (suc n) = get_or xs (at + k) 0 ∷ listed xs at (suc k) n

pub part_listed : (xs : List ℕ) (at k n : ℕ) → at + k + n ≤ length xs → part xs (at + k) n ≡ listed xs at k n
part_listed xs at k zero h = refl
part_listed xs at k (suc n) h =
    ap (take (suc n)) (drop-cons xs (at + k) 0 (omega arith))
    ∙ ap (λ (m : ℕ). get_or xs (at + k) 0 ∷ take n (drop m xs)) (sym (add-suc at k))
    ∙ ap (λ (l : List ℕ). get_or xs (at + k) 0 ∷ l) (part_listed xs at (suc k) n (omega arith))

-- Laws of the counts: one line more, and the sum of all.
-- Assumes nothing.
use mathlib.Core.Path.{◌≡◌, refl, sym, ap, ◌∙◌}
use mathlib.Core.List.{List, [], ◌∷◌, ◌++◌, append_assoc, append-nil}
use mathlib.Core.Bool.{Bool, cond}
use Prim.Native.Nat.{ℕ, zero, suc, ◌+◌, ◌≤◌, ◌<◌}
use native.Mathlib.Nat.{zero-add, add-zero}
use native.Mathlib.Decide.{dec_lt, ℕ_discrete}
use native.Mathlib.Omega.{arith}
use borrow.Author.Tests.{eq-eqb, ne_eqb}
use lib.Dec.{eqb}
use lib.ListN.{length, get_or, set, replicate, length-set}
use lib.Seq.{ext_get_or, set_out, get_or-set_same, get_or-set_other}
use Rattle.cells.proofs.Tests.{tested}
use Rattle.logs.specs.Line.{line}
use Rattle.logs.specs.Counts.{first_of, under, times, each, counts, sum}
use Rattle.logs.specs.InnerLines.{counted, counted_all}

-- a line goes under one of the 600
first_below : (p : ℕ → Bool) (s n : ℕ) → 0 < s + n → first_of p s n < s + n
unfolding first_of
first_below p s zero h = h
first_below p s (suc n) h = tested (p s) (λ e. rw e (omega arith)) (λ e. rw e (omega (arith, first_below p (suc s) n (omega arith))))

pub under_below : (l : List ℕ) → under l < 600
unfolding under
under_below l = first_below (λ s. line s l) 100 500 (omega arith)

-- entries of what is listed number by number
each_length : (f : ℕ → ℕ) (s n : ℕ) → length (each f s n) ≡ n
unfolding each
each_length f s zero = refl
each_length f s (suc n) = ap suc (each_length f (suc s) n)

each_at : (f : ℕ → ℕ) (s n i : ℕ) → i < n → get_or (each f s n) i 0 ≡ f (s + i)
unfolding each
each_at f s zero i h = absurd (omega (arith, h))
each_at f s (suc n) zero h = ap f (sym (add-zero s))
each_at f s (suc n) (suc i) h =
    let same : suc s + i ≡ s + suc i = omega arith in
    each_at f (suc s) n i (omega arith) ∙ ap f same

pub counts_length : (ls : List (List ℕ)) → length (counts ls) ≡ 600
unfolding counts
counts_length ls = each_length (λ s. times s ls) 0 600

pub counts_at : (ls : List (List ℕ)) (s : ℕ) → s < 600 → get_or (counts ls) s 0 ≡ times s ls
unfolding counts
counts_at ls s h = each_at (λ t. times t ls) 0 600 s h ∙ ap (λ (t : ℕ). times t ls) (zero-add s)

times_more : (s : ℕ) (ls : List (List ℕ)) (l : List ℕ) → times s (ls ++ l ∷ []) ≡ times s ls + cond (eqb (under l) s) 1 0
unfolding times
times_more s [] l = omega arith
times_more s (k ∷ ls) l = omega (arith, times_more s ls l)

-- one line more
pub counts_more : (ls : List (List ℕ)) (l : List ℕ) → counted (counts ls) l ≡ counts (ls ++ l ∷ [])
counts_more ls l =
    ext_get_or 0 (counted (counts ls) l) (counts (ls ++ l ∷ [])) (size ∙ sym (counts_length (ls ++ l ∷ [])))
    (λ i h. entry i (omega (arith, size)) ∙ sym (times_more i ls l) ∙ sym (counts_at (ls ++ l ∷ []) i (omega (arith, size))))
  where
    size : length (counted (counts ls) l) ≡ 600
    size = length-set (counts ls) (under l) (get_or (counts ls) (under l) 0 + 1) ∙ counts_length ls

    entry : (i : ℕ) → i < 600 → get_or (counted (counts ls) l) i 0 ≡ times i ls + cond (eqb (under l) i) 1 0
    entry i h = elim (ℕ_discrete i (under l)) [
      | yes e ↦
          rw e
          (get_or-set_same (counts ls) (under l) (get_or (counts ls) (under l) 0 + 1) 0 (omega (arith, counts_length ls, under_below l))
          ∙ rw (counts_at ls (under l) (under_below l), eq-eqb (under l) (under l) refl) refl)
      | no n ↦
          get_or-set_other (counts ls) (under l) i (get_or (counts ls) (under l) 0 + 1) 0 n
          ∙ rw (counts_at ls i h, ne_eqb (under l) i (λ e. n (sym e))) (sym (add-zero (times i ls)))
    ]

pub counted_more : (ns : List ℕ) (ls : List (List ℕ)) (l : List ℕ) → counted_all ns (ls ++ l ∷ []) ≡ counted (counted_all ns ls) l
unfolding counted_all
counted_more ns [] l = refl
counted_more ns (k ∷ ls) l = counted_more (counted ns k) ls l

-- and some
pub counts_all : (ls ms : List (List ℕ)) → counted_all (counts ls) ms ≡ counts (ls ++ ms)
unfolding counted_all
counts_all ls [] = ap counts (sym (append-nil ls))
counts_all ls (m ∷ ms) =
    ap (λ (ns : List ℕ). counted_all ns ms) (counts_more ls m) ∙ counts_all (ls ++ m ∷ []) ms ∙ ap counts (append_assoc ls (m ∷ []) ms)

-- an entry and the sum
pub entry_within : (ns : List ℕ) (i : ℕ) → get_or ns i 0 ≤ sum ns
unfolding sum
entry_within [] i = omega arith
entry_within (n ∷ ns) zero = omega arith
entry_within (n ∷ ns) (suc i) = omega (arith, entry_within ns i)

sum_set : (ns : List ℕ) (i : ℕ) → i < length ns → sum (set ns i (get_or ns i 0 + 1)) ≡ sum ns + 1
unfolding sum
sum_set [] i h = absurd (omega (arith, h))
sum_set (n ∷ ns) zero h = omega arith
sum_set (n ∷ ns) (suc i) h = omega (arith, sum_set ns i (omega arith))

pub sum_all : (ns : List ℕ) (ls : List (List ℕ)) → length ns ≡ 600 → sum (counted_all ns ls) ≡ sum ns + length ls
unfolding counted_all
sum_all ns [] h = sym (add-zero (sum ns))
sum_all ns (l ∷ ls) h =
    omega (
      arith,
      sum_all (counted ns l) ls (length-set ns (under l) (get_or ns (under l) 0 + 1) ∙ h),
      sum_set ns (under l) (omega (arith, under_below l)),
    )

-- at most, however many entries there are
pub sum_set_most : (ns : List ℕ) (i : ℕ) → sum (set ns i (get_or ns i 0 + 1)) ≤ sum ns + 1
sum_set_most ns i = elim (dec_lt i (length ns)) [
  | yes h ↦ omega (arith, sum_set ns i h)
  | no h ↦ omega (arith, ap sum (set_out ns i (get_or ns i 0 + 1) (omega arith)))
]

-- none of the lines
pub counts_none : counts [] ≡ replicate 600 0
unfolding counts each times
counts_none = refl

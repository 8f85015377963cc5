-- Laws of runs that all pass a test, and of the loops that look for a run's end.
-- Assumes nothing.
use mathlib.Core.Path.{◌≡◌, refl, sym, ap, ◌∙◌}
use mathlib.Core.List.{List, [], ◌∷◌, ◌++◌}
use mathlib.Core.Bool.{Bool, true, false, ◌&&◌, and-true}
use Prim.Native.Nat.{ℕ, suc, ◌+◌, ◌-◌, ◌≤◌, ◌<◌}
use native.Mathlib.Numerals.{add-one}
use native.Mathlib.Omega.{arith}
use lib.Dec.{eqb, eqb-suc-suc, eqb-zero-suc}
use lib.ListN.{length, get_or, take, drop, drop_of_length-le}
use lib.Seq.{drop-cons, drop-drop, drop-append_seam}
use Rattle.cells.specs.Runs.{cut}
use Rattle.cells.specs.Spans.{all, leading, Spans, Passed}
use Rattle.cells.proofs.Tests.{tested, both}
use Rattle.cells.proofs.Cuts.{length_cut, cut_split}

-- elements that all pass, and those after them
leading_over : (p : ℕ → Bool) (xs ys : List ℕ) → all p xs ≡ true → leading p (xs ++ ys) ≡ length xs + leading p ys
unfolding all leading
leading_over p [] ys h = omega arith
leading_over p (x ∷ xs) ys h =
    let parts = both (p x) (all p xs) h in
    rw parts.0 (ap suc (leading_over p xs ys parts.1) ∙ omega arith)

module _ (p : ℕ → Bool) (xs : List ℕ) where
  -- the loop begins, passes an element, stops at one that fails, and ends
  pub passed_none : (at : ℕ) → at ≤ length xs → Passed p xs at at
  passed_none at h = record { from = omega arith; within = h; same = refl }

  pub passed_more : (at i : ℕ) → Passed p xs at i → i < length xs → p (get_or xs i 0) ≡ true → Passed p xs at (i + 1)
  unfolding leading
  passed_more at i g h e =
      record { from = omega arith; within = omega arith; same = rw add-one (omega (arith, rw (drop-cons xs i 0 h, e) at g.same)) }

  pub passed_stop : (at i : ℕ) → Passed p xs at i → i < length xs → p (get_or xs i 0) ≡ false → Spans p xs at i
  unfolding leading
  passed_stop at i g h e = record { is = omega (arith, rw (drop-cons xs i 0 h, e) at g.same); within = g.within }

  pub passed_end : (at i : ℕ) → Passed p xs at i → length xs ≤ i → Spans p xs at i
  unfolding leading
  passed_end at i g h = record { is = omega (arith, rw (drop_of_length-le xs {i = i} h) at g.same); within = g.within }

  -- the elements from index i on pass if that one does and those after it, and past the end there are none
  pub all_from : (i : ℕ) → i < length xs → all p (drop i xs) ≡ (p (get_or xs i 0) && all p (drop (i + 1) xs))
  unfolding all
  all_from i h = rw (add-one, drop-cons xs i 0 h)

  pub all_past : (t : Bool) (i : ℕ) → length xs ≤ i → (t && all p (drop i xs)) ≡ t
  unfolding all
  all_past t i h = rw (drop_of_length-le xs {i = i} h) (and-true t)

  -- a search for an element that fails goes on after a part that passes
  pub passed_part : (at i e : ℕ) → Passed p xs at i → i ≤ e → e ≤ length xs → all p (cut xs i e) ≡ true → Passed p xs at e
  passed_part at i e g h k t = record {
    from = omega arith;
    within = k;
    same =
        g.same ∙ ap (λ (l : List ℕ). i + leading p l) (cut_split xs i e h)
        ∙ omega (arith, leading_over p (cut xs i e) (drop e xs) t, length_cut xs i e k);
  }

-- all pass exactly if as many pass at the front as there are
pub all_test : (p : ℕ → Bool) (xs : List ℕ) → all p xs ≡ eqb (leading p xs) (length xs)
unfolding all leading
all_test p [] = refl
all_test p (x ∷ xs) =
    tested (p x) (λ e. rw e (all_test p xs ∙ sym (eqb-suc-suc (leading p xs) (length xs)))) (λ e. rw e (sym (eqb-zero-suc (length xs))))

-- where all of xs pass and the element after them does not, as many as xs has are at the front
pub leading_append : (p : ℕ → Bool) (xs : List ℕ) (y : ℕ) (ys : List ℕ) → all p xs ≡ true → p y ≡ false → leading p (xs ++ y ∷ ys) ≡ length xs
unfolding leading
leading_append p xs y ys h e = leading_over p xs (y ∷ ys) h ∙ rw e (omega arith)

-- those at the front pass
leading_all : (p : ℕ → Bool) (xs : List ℕ) → all p (take (leading p xs) xs) ≡ true
unfolding all leading
leading_all p [] = refl
leading_all p (x ∷ xs) = tested (p x) (λ e. rw (e, e) (leading_all p xs)) (λ e. rw e refl)

-- the part of a run that a span takes passes
pub span_all : (p : ℕ → Bool) (xs : List ℕ) (a e : ℕ) → Spans p xs a e → all p (cut xs a e) ≡ true
span_all p xs a e s =
    let size : e - a ≡ leading p (drop a xs) = omega (arith, s.is) in
    rw size (leading_all p (drop a xs))

-- a span that an element follows that fails ends there
pub stops : (p : ℕ → Bool) (block xs ys : List ℕ) (at c y : ℕ) → Spans p block at c → drop at block ≡ xs ++ y ∷ ys → all p xs ≡ true → p y ≡ false
    → (c ≡ at + length xs) × (drop c block ≡ y ∷ ys)
stops p block xs ys at c y s h t f =
    let size = s.is ∙ ap (λ (l : List ℕ). at + leading p l) h ∙ ap (λ (k : ℕ). at + k) (leading_append p xs y ys t f) in (
      size,
      ap (λ (k : ℕ). drop k block) size ∙ sym (drop-drop (length xs) at block) ∙ ap (drop (length xs)) h ∙ drop-append_seam xs (y ∷ ys),
    )

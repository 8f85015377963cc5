-- Laws of names and values in lines, one line at a time.
-- Assumes nothing.
use mathlib.Core.Path.{◌≡◌, refl, sym, ap, ◌∙◌}
use mathlib.Core.List.{List, [], ◌∷◌}
use mathlib.Core.Bool.{true, false}
use Prim.Native.Nat.{ℕ, ◌+◌, ◌≤◌}
use native.Mathlib.Omega.{arith}
use borrow.Author.Tests.{eqb-true, eqb-false}
use lib.Dec.{eqb}
use lib.ListN.{length, drop, drop_of_length-le, length-drop}
use Rattle.cells.proofs.Tests.{tested}
use Rattle.cells.specs.Runs.{cut}
use Rattle.names.specs.Names.{same_name}
use Rattle.names.proofs.Same.{same_right}
use Rattle.lines.specs.Lines.{Line, lines_in, good_block}
use Rattle.lines.specs.Values.{trimmed, values_in}
use Rattle.lines.specs.InnerPlaces.{line_between, WholeLine, NoLine, own_at}
use Rattle.lines.proofs.Lines.{lines_none, lines_more, good_none, good_more, good_stop}

-- a line, and the lines after it
pub lines_at : (block : List ℕ) (at c e : ℕ) → WholeLine block at c e → lines_in (drop at block) ≡ line_between block at c e ∷ lines_in (drop (e + 2) block)
lines_at block at c e w = ap lines_in w.text ∙ lines_more (line_between block at c e) (drop (e + 2) block) w.good

pub good_at : (block : List ℕ) (at c e : ℕ) → WholeLine block at c e → good_block (drop at block) ≡ good_block (drop (e + 2) block)
good_at block at c e w = ap good_block w.text ∙ good_more (line_between block at c e) (drop (e + 2) block) w.good

pub lines_end : (block : List ℕ) (at : ℕ) → length block ≤ at → lines_in (drop at block) ≡ []
lines_end block at h = rw (drop_of_length-le block {i = at} h) lines_none

pub good_end : (block : List ℕ) (at : ℕ) → length block ≤ at → good_block (drop at block) ≡ true
good_end block at h = rw (drop_of_length-le block {i = at} h) good_none

-- where no line stands, the rest of a block is lines if there is none
pub good_there : (block : List ℕ) (at : ℕ) → at ≤ length block → NoLine block at → good_block (drop at block) ≡ eqb at (length block)
good_there block at h none =
    tested (eqb at (length block)) (λ t. good_end block at (omega (arith, eqb-true at (length block) t)) ∙ sym t)
    (λ t. good_stop (drop at block) (omega (arith, length-drop at block, eqb-false at (length block) t)) none ∙ sym t)

-- names that are the same have the same values
pub same_values : (n m : List ℕ) → same_name n m ≡ true → (ls : List Line) → values_in ls n ≡ values_in ls m
unfolding values_in
same_values n m h [] = refl
same_values n m h (l ∷ ls) = rw (same_values n m h ls, same_right l.name n m h) refl

module _ (block : List ℕ) (at c e : ℕ) (w : WholeLine block at c e) where
  -- a line that bears the name, and one that does not
  pub values_own : (name : List ℕ) → same_name (cut block at c) name ≡ true → values_in (lines_in (drop at block)) name ≡ own_at block at
  unfolding values_in
  values_own name h = rw (lines_at block at c e w, h) (ap (λ (vs : List (List ℕ)). trimmed (cut block (c + 1) e) ∷ vs) (sym (same_values (cut block at c) name h (lines_in (drop (e + 2) block)))))

  pub values_past : (name : List ℕ) → same_name (cut block at c) name ≡ false
      → values_in (lines_in (drop at block)) name ≡ values_in (lines_in (drop (e + 2) block)) name
  unfolding values_in
  values_past name h = rw (lines_at block at c e w, h) refl

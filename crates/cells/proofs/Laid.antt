-- Texts laid one after the other.
-- Assumes nothing.
use mathlib.Core.Path.{◌≡◌, sym, ap, ◌∙◌}
use mathlib.Core.List.{List, [], ◌++◌, append-nil}
use Prim.Native.Nat.{ℕ, ◌-◌, ◌≤◌}
use native.Mathlib.Omega.{arith}
use lib.ListN.{length, take, drop, length-append, length-drop, take-append-drop, drop_of_length-le}
use lib.Seq.{take_all}
use Rattle.cells.specs.Runs.{spliced, fronted}
use Rattle.cells.specs.InnerLaid.{Laid}
use Rattle.cells.proofs.Runs.{joined}

-- what is left of a buffer whose rest from byte a on was lent
pub lent_rest : (xs ys : List ℕ) (a n : ℕ) {left : List ℕ} → n ≡ length xs → left ≡ fronted ys (take (n - a) (drop a xs))
    → take a xs ++ (left ++ drop (n - a) (drop a xs)) ≡ spliced xs a ys
unfolding fronted spliced
lent_rest xs ys a n e p =
    let whole : take (n - a) (drop a xs) ≡ drop a xs = take_all (n - a) (drop a xs) (omega (arith, length-drop a xs)) in
    let nothing : drop (n - a) (drop a xs) ≡ [] = drop_of_length-le (drop a xs) {i = n - a} (omega (arith, length-drop a xs)) in
    rw (p, nothing, whole, append-nil)

-- no text
pub laid_none : (out : List ℕ) (at : ℕ) → Laid out out at at []
unfolding spliced
laid_none out at = record { is = sym (take-append-drop at out); ends = omega arith }

-- two texts side by side
pub laid_more : {out mid left : List ℕ} {at next end : ℕ} {xs ys : List ℕ} → Laid out mid at next xs → Laid mid left next end ys → end ≤ length out
    → Laid out left at end (xs ++ ys)
laid_more {out = out} {at = at} {next = next} {xs = xs} {ys = ys} p q h = record {
  is =
      q.is ∙ ap (λ (l : List ℕ). spliced l next ys) p.is
      ∙ joined out xs ys at next (omega (arith, p.ends, q.ends)) p.ends;
  ends = q.ends ∙ omega (arith, p.ends, length-append xs ys);
}

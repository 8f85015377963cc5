-- The number of the letters is not left to a tactic, which would count them.
use Rattle.std.proofs.Common.{ℕ, ◌≤◌, sym, subst, arith}
use Rattle.std.proofs.lemmas.List.{length-replicate}
use Rattle.vectors.proofs.digests.letters.Goals as goal

pub slice_bounds-parts-end : goal.slice_bounds-parts-end
slice_bounds-parts-end g c = sym (length-replicate {0} {A = ℕ} 1000000 97)

pub parts-requires : goal.parts-requires
parts-requires g c = subst (λ (n : ℕ). n ≤ 1000000) (sym (length-replicate {0} {A = ℕ} 1000000 97)) (omega arith)

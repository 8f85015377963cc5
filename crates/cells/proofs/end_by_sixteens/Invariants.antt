-- The bytes from at up to i pass, and what is left to look at stands from i on.
use Rattle.std.proofs.Common.{◌≡◌, ℕ, Bool, ◌<◌, ◌≤◌, length, drop}
use Rattle.std.specs.Slice.Iter.{chunks_exact_rest, chunks_exact_size}
use Rattle.cells.specs.Spans.{Passed}
use Rattle.cells.proofs.end_by_sixteens.Given as goal

abbrev pub invariant-loop-sixteen : goal.invariant-loop-sixteen
invariant-loop-sixteen g l =
    goal.F-IsAlwaysCallable g l.passes
    × (l.i ≤ length l.run)
    × (chunks_exact_size l.sixteen-iterator ≡ 16)
    × (drop l.i l.run ≡ chunks_exact_rest l.sixteen-iterator)
    × ((p : ℕ → Bool) → ((b : ℕ) (r : Bool) → b < 256 → goal.F-post g l.passes b r → r ≡ p b) → Passed p l.run l.at l.i)

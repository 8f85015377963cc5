-- good tells of the bytes before the index, and with those from there on of all.
use Rattle.std.proofs.Common.{◌≡◌, ℕ, Bool, ◌<◌, drop}
use Rattle.std.specs.Prelude.{◌&&◌}
use Rattle.cells.specs.Spans.{all}
use Rattle.cells.proofs.all.Given as goal

abbrev pub invariant-loop-b : goal.invariant-loop-b
invariant-loop-b g l =
    goal.F-IsAlwaysCallable g l.passes
    × ((p : ℕ → Bool) → ((b : ℕ) (r : Bool) → b < 256 → goal.F-post g l.passes b r → r ≡ p b) → (l.good && all p (drop l.b-index l.run)) ≡ all p l.run)

-- The runs are the same exactly if no differences are gathered and what stands from i on is the same.
use Rattle.std.proofs.Common.{◌≡◌, drop}
use Rattle.std.specs.Prelude.{◌&&◌}
use lib.Dec.{eqb}
use Rattle.cells.specs.Runs.{same}
use Rattle.cells.proofs.same.Given as goal

abbrev pub invariant-loop-i : goal.invariant-loop-i
invariant-loop-i l = same l.a l.b ≡ (eqb l.differences 0 && same (drop l.i l.a) (drop l.i l.b))

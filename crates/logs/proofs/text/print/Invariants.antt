-- The rows of the statuses before s are laid, each in at most 25 bytes.
-- Assumes nothing.
use Rattle.std.proofs.Common.{◌+◌, ◌-◌, ◌*◌, ◌≤◌}
use Rattle.cells.specs.InnerLaid.{Laid}
use Rattle.logs.specs.Printed.{rows}
use Rattle.logs.proofs.text.print.Given as goal

abbrev pub invariant-loop-s : goal.invariant-loop-s
invariant-loop-s l = (l.at ≤ 13 + 25 * (l.s - 100)) × Laid l.initial.out l.out l.initial.at l.at (rows l.counts 100 (l.s - 100))

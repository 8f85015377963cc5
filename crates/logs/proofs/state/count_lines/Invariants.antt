-- The lines before byte at are counted, and the next one ends at byte end.
-- Assumes nothing.
use Rattle.std.proofs.Common.{◌≡◌, ◌+◌, ◌-◌, ◌≤◌, length, take}
use Rattle.cells.specs.Spans.{Spans}
use Rattle.logs.specs.Line.{other}
use Rattle.logs.specs.Counts.{LF, lines, sum}
use Rattle.logs.specs.Taken.{Ended}
use Rattle.logs.specs.InnerLines.{counted_all}
use Rattle.logs.proofs.state.count_lines.Given as goal

abbrev pub invariant-loop-end : goal.invariant-loop-end
invariant-loop-end l =
    (l.at ≤ length l.part)
    × Spans (other LF) l.part l.at l.end
    × (l.counts ≡ counted_all l.initial.counts (lines (take l.at l.part)))
    × Ended (take l.at l.part)
    × (sum l.counts ≤ sum l.initial.counts + l.at)

abbrev pub decreases-loop-end : goal.decreases-loop-end
decreases-loop-end l = length l.part - l.at

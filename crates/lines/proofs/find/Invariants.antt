-- No line from at up to place bears the name.
use Rattle.std.proofs.Common.{◌≡◌, ◌-◌, ◌≤◌, length, drop}
use Rattle.lines.specs.Lines.{lines_in}
use Rattle.lines.specs.Values.{values_in}
use Rattle.lines.proofs.find.Given as goal

abbrev pub invariant-loop-line : goal.invariant-loop-line
invariant-loop-line l =
    (l.at ≤ l.place)
    × (l.place ≤ length l.block)
    × (values_in (lines_in (drop l.at l.block)) l.name ≡ values_in (lines_in (drop l.place l.block)) l.name)

abbrev pub decreases-loop-line : goal.decreases-loop-line
decreases-loop-line l = length l.block - l.place

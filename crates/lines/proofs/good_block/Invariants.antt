-- The block is lines if what follows the lines up to at is.
use Rattle.std.proofs.Common.{◌≡◌, ◌-◌, ◌≤◌, length, drop}
use Rattle.lines.specs.Lines.{good_block}
use Rattle.lines.proofs.good_block.Given as goal

abbrev pub invariant-loop-line : goal.invariant-loop-line
invariant-loop-line l = (l.at ≤ length l.block) × (good_block l.block ≡ good_block (drop l.at l.block))

abbrev pub decreases-loop-line : goal.decreases-loop-line
decreases-loop-line l = length l.block - l.at

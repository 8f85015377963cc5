-- The number's digits are those of what is left of it, and those laid after start.
use Rattle.std.proofs.Common.{◌≡◌, ◌++◌, ◌≤◌, ◌<◌, ◌^◌, suc, length, drop}
use Rattle.cells.specs.Decimal.{decimal}
use Rattle.cells.proofs.decimal.digits.Given as goal

abbrev pub invariant-loop-left : goal.invariant-loop-left
invariant-loop-left l = (length l.all ≡ 20) × (l.start ≤ 19) × (l.left < 10 ^ suc l.start) × (decimal l.n ≡ decimal l.left ++ drop (suc l.start) l.all)

abbrev pub decreases-loop-left : goal.decreases-loop-left
decreases-loop-left l = l.left

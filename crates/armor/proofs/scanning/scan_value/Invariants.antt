use Rattle.std.proofs.Common.{◌-◌, ◌+◌, ◌≤◌, length}
use Rattle.armor.proofs.Scan.{Progress}
use Rattle.armor.proofs.scanning.scan_value.Given as goal

-- the fields of the pieces before at are noted
abbrev pub invariant-loop-at : goal.invariant-loop-at
invariant-loop-at l = record {
  within : l.at ≤ length l.value + 1;
  progress : Progress l.value l.seen l.at;
}

abbrev pub decreases-loop-at : goal.decreases-loop-at
decreases-loop-at l = length l.value - l.at

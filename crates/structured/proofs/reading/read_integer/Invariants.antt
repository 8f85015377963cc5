-- The value of the digits up to the index.
-- Assumes nothing.
use Rattle.std.proofs.Common.{◌≡◌, ◌+◌, ◌^◌, ◌≤◌, take}
use Rattle.cells.specs.Decimal.{value_after}
use Rattle.structured.proofs.reading.read_integer.Given as goal

abbrev pub invariant-loop-b : goal.invariant-loop-b
invariant-loop-b l = record { is : l.value ≡ value_after 0 (take l.b-index l.b-items); small : l.value + 1 ≤ 10 ^ l.b-index }

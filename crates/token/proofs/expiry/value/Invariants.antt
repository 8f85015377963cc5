-- The value of the digits passed, which stay far below what the sum can hold.
use Rattle.std.proofs.Common.{◌≡◌, ◌+◌, ◌*◌, ◌^◌, ◌≤◌, take}
use Rattle.cells.specs.Decimal.{value_after}
use Rattle.token.proofs.expiry.value.Given as goal

abbrev pub invariant-loop-b : goal.invariant-loop-b
invariant-loop-b l = (l.value ≡ value_after 0 (take l.b-index l.digits)) × (l.value + 32 ≤ 32 * 16 ^ l.b-index)

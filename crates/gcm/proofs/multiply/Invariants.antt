-- Before bit i, Z and V are those of the standard, and bit i of x is highest.
-- Assumes nothing.
use Rattle.std.proofs.Common.{◌≡◌, ◌*◌, ◌%◌, ◌^◌}
use Rattle.gcm.specs.Multiply.{z_at, v_at}
use Rattle.gcm.proofs.multiply.Given as goal

abbrev pub invariant-loop-i : goal.invariant-loop-i
invariant-loop-i l =
    (l.z ≡ z_at l.fn.x l.fn.y l._i) × (l.v ≡ v_at l.fn.y l._i) × (l.bits ≡ l.fn.x * 2 ^ l._i % 2 ^ 128)

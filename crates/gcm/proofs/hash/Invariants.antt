-- Before turn n the blocks before block n are taken in.
-- Assumes nothing.
use Rattle.std.proofs.Common.{◌≡◌}
use Rattle.gcm.specs.Ghash.{hashed}
use Rattle.gcm.specs.Gcm.{padded}
use Rattle.gcm.proofs.hash.Given as goal

abbrev pub invariant-loop-n : goal.invariant-loop-n
invariant-loop-n l = l.y ≡ hashed l.h (padded l.s) l.n

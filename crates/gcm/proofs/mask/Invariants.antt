-- Before turn i the first i bytes are those of the masked block.
-- Assumes nothing.
use Rattle.std.proofs.Common.{◌≡◌, take}
use Rattle.gcm.specs.Gctr.{added}
use Rattle.gcm.proofs.mask.Given as goal

abbrev pub invariant-loop-i : goal.invariant-loop-i
invariant-loop-i l = take l.i l.out ≡ added (take l.i l.text) l.stream

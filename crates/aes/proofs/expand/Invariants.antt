-- Before turn i the first i words of the schedule are there.
-- Assumes nothing.
use Rattle.std.proofs.Common.{◌≡◌, ◌-◌, ◌*◌, length, take}
use Rattle.aes.specs.Cipher.{expanded}
use Rattle.aes.proofs.expand.Given as goal

abbrev pub invariant-loop-i : goal.invariant-loop-i
invariant-loop-i l = (length l.w ≡ 240) × (take (4 * l.i) l.w ≡ expanded l.key (l.i - 8))

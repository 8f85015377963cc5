-- Before turn n the state has had n - 1 full rounds.
-- Assumes nothing.
use Rattle.std.proofs.Common.{◌≡◌, ◌-◌}
use Rattle.aes.specs.Cipher.{rounds}
use Rattle.aes.specs.InnerCode.{listed}
use Rattle.aes.proofs.encrypt.Given as goal

abbrev pub invariant-loop-n : goal.invariant-loop-n
invariant-loop-n l = listed l.s ≡ rounds l.keys (listed l.initial.s) (l.n - 1)

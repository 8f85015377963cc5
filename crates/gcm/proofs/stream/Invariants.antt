-- Before turn n the first n blocks are masked, and the counter block is that of block n.
-- Assumes nothing.
use Rattle.std.proofs.Common.{◌≡◌, List, ℕ, ◌*◌, min, length, take}
use Rattle.aes.specs.Cipher.{key_expansion}
use Rattle.gcm.specs.Gctr.{counter_at, masked}
use Rattle.gcm.proofs.stream.Given as goal

abbrev pub invariant-loop-n : goal.invariant-loop-n
invariant-loop-n l =
    (l.counter ≡ counter_at l.fn.first l.n)
    × ((key : List ℕ) → l.keys ≡ key_expansion key → take (min (16 * l.n) (length l.text)) l.out ≡ masked key l.fn.first l.text l.n)

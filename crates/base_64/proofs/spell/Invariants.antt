use Rattle.std.proofs.Common.{◌≡◌, ◌<◌, ℕ, get_or}
use Rattle.base_64.specs.Encoding.{encoded}
use Rattle.base_64.proofs.spell.Given as goal

-- the first i characters are laid
abbrev pub invariant-loop-i : goal.invariant-loop-i
invariant-loop-i l = (k : ℕ) → k < l.i → get_or l.out k 0 ≡ get_or (encoded l.bytes) k 0

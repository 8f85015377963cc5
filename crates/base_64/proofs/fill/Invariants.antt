use Rattle.std.proofs.Common.{◌≡◌, ◌<◌, ℕ, get_or}
use Rattle.base_64.specs.Decoding.{decoded}
use Rattle.base_64.specs.InnerSteps.{content}
use Rattle.base_64.proofs.fill.Given as goal

-- the first i bytes are laid
abbrev pub invariant-loop-i : goal.invariant-loop-i
invariant-loop-i l = (k : ℕ) → k < l.i → get_or l.out k 0 ≡ get_or (content (decoded l.text)) k 0

-- The bytes of a value, as the code tells them from others, by one computed test.
-- Assumes nothing.
use mathlib.Core.Path.{◌≡◌, refl}
use mathlib.Core.Bool.{Bool, not, ◌&&◌, ◌||◌}
use Prim.Native.Nat.{ℕ, ◌<◌}
use lib.Dec.{leb, eqb}
use Rattle.names.proofs.Tokens.{agree}
use Rattle.lines.specs.Lines.{value_byte}

-- what the code computes
abbrev pub tested : ℕ → Bool
tested b = eqb b 9 || (leb 32 b && not (eqb b 127))

pub tested_value : (b : ℕ) → b < 256 → tested b ≡ value_byte b
unfolding value_byte
tested_value b h = agree tested value_byte 256 refl b h

-- The bytes of a key, as the code tells them from others, by one computed test, and keys by their bytes.
-- Assumes nothing.
use mathlib.Core.Path.{◌≡◌, refl}
use mathlib.Core.List.{List, [], ◌∷◌}
use mathlib.Core.Bool.{Bool, false, ◌&&◌, ◌||◌}
use Prim.Native.Nat.{ℕ, ◌<◌}
use native.Mathlib.Omega.{arith}
use lib.Dec.{leb, eqb}
use lib.ListN.{length}
use Rattle.cells.specs.Text.{codes}
use Rattle.names.specs.Names.{has_byte}
use Rattle.names.proofs.Tokens.{agree}
use Rattle.structured.specs.Texts.{key_start, key_byte, is_key}

-- what the code computes
abbrev pub tested : ℕ → Bool
tested b = (key_start b || (leb 48 b && leb b 57)) || (eqb b 95 || (eqb b 45 || eqb b 46))

pub tested_key : (b : ℕ) → b < 256 → tested b ≡ key_byte b
unfolding has_byte codes
tested_key b h = agree tested key_byte 256 refl b h

-- no byte is no key
pub key_none : (run : List ℕ) → length run ≡ 0 → is_key run ≡ false
unfolding is_key
key_none [] h = refl
key_none (b ∷ bs) h = absurd (omega arith)

-- The table of the code is the substitution of the standard.
-- Assumes nothing.
use mathlib.Core.Path.{◌≡◌}
use mathlib.Core.Bool.{Bool, true}
use mathlib.Core.List.{List}
use Prim.Native.Nat.{ℕ, ◌<◌}
use borrow.Author.Tests.{eqb-true}
use lib.Dec.{eqb}
use lib.ListN.{get_or}
use Rattle.cells.proofs.Tests.{every_below, every_at}
use Rattle.aes.specs.Sbox.{sub_byte}

-- the entry of a table at b is the right one
abbrev pub right : List ℕ → ℕ → Bool
right table b = eqb (get_or table b 0) (sub_byte b)

pub substituted : (table : List ℕ) → every_below (right table) 256 ≡ true → (b : ℕ) → b < 256 → get_or table b 0 ≡ sub_byte b
substituted table t b h = eqb-true _ _ (every_at (right table) 256 t b h)

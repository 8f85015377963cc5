-- Laws of the places where names start: a start below 1024 is one in the known names, and another one in the extra names.
-- Assumes nothing.
use mathlib.Core.Path.{◌≡◌, ap}
use mathlib.Core.List.{List}
use Prim.Native.Nat.{ℕ, ◌-◌, ◌≤◌, ◌<◌}
use native.Mathlib.Omega.{arith}
use borrow.Author.Tests.{lt-ltb, le-ltb}
use lib.ListN.{take, drop}
use Rattle.cells.specs.Spans.{leading, Spans}
use Rattle.cells.specs.Runs.{cut}
use Rattle.names.specs.InnerWalk.{no_comma}
use Rattle.names.specs.InnerSheet.{name_at, named, Start}

-- the name that starts at index at ends at the next comma
pub name_cut : (run : List ℕ) (at end : ℕ) → Spans no_comma run at end → cut run at end ≡ name_at run at
unfolding name_at
name_cut run at end s =
    let size : end - at ≡ leading no_comma (drop at run) = omega (arith, s.is) in ap (λ (n : ℕ). take n (drop at run)) size

module _ (known extra : List ℕ) (start : ℕ) (h : start < 1024) where
  pub known_named : named known extra start ≡ name_at known start
  known_named = rw (lt-ltb start 1024 h) (ap (name_at known) (omega arith))

module _ (known extra : List ℕ) (start : ℕ) (h : 1024 ≤ start) (s : Start known extra start) where
  pub extra_named : named known extra start ≡ name_at extra (start - 1024)
  extra_named = rw (le-ltb start 1024 h) (ap (name_at extra) (omega arith))

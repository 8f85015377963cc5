-- What the test for a well-formed table asks: the lowest bit, and whether a scan finds a place.
-- Assumes nothing.
use mathlib.Core.Path.{◌≡◌, refl, ap}
use mathlib.Core.List.{List, [], ◌∷◌}
use mathlib.Core.Bool.{Bool, true, false, true≢false, not, cond, ◌&&◌, ◌||◌}
use Prim.Native.Nat.{ℕ, suc, ◌%◌}
use native.Mathlib.Nat.{div-one}
use native.Mathlib.Omega.{arith}
use borrow.Author.Tests.{eqb-true, eq-eqb, ne_eqb}
use lib.Dec.{eqb}
use Rattle.std.specs.Prelude.{Some, is_some}
use Rattle.window.specs.Window.{bit}
use Rattle.table.specs.declared.session.Record.{Record}
use Rattle.table.specs.Table.{first_from}
use Rattle.hashes.specs.Hashes.{names_one}
use Rattle.table.specs.WellFormed.{some, sound}

-- the lowest bit
pub lowest : (bits : ℕ) → bit bits 0 ≡ eqb (bits % 2) 1
unfolding bit
lowest bits = ap (λ (n : ℕ). eqb (n % 2) 1) (div-one bits)

-- a scan finds a place exactly if some record passes
pub scan_some : (test : Record → Bool) (place : ℕ) (rs : List Record) → is_some (first_from test place rs) ≡ some test rs
scan_some test place [] = refl
scan_some test place (r ∷ rs) = by (test r) (scan_some test (suc place) rs)
  where
    by : (t : Bool) → is_some (first_from test (suc place) rs) ≡ some test rs
        → is_some (cond t (Some place) (first_from test (suc place) rs)) ≡ (t || some test rs)
    by true e = refl
    by false e = e

-- a session with a nonce is sound by its hash and its lowest bit
pub sound_usual : (r : Record) → r.used ≡ 1 → r.any ≡ 1 → sound r ≡ (names_one r.hash && eqb (r.bits % 2) 1)
unfolding sound
sound_usual r used any =
    rw (ne_eqb r.used 0 (λ z. omega arith), eq-eqb r.used 1 used, ne_eqb r.any 0 (λ z. omega arith), eq-eqb r.any 1 any, lowest r.bits)

-- of two bytes neither is another than 1
pub both_one : (a b : ℕ) → (not (eqb a 1) || not (eqb b 1)) ≡ false → (a ≡ 1) × (b ≡ 1)
both_one a b = by (eqb a 1) refl (eqb b 1) refl
  where
    by : (s : Bool) → eqb a 1 ≡ s → (t : Bool) → eqb b 1 ≡ t → (not s || not t) ≡ false → (a ≡ 1) × (b ≡ 1)
    by true p true q z = (eqb-true a 1 p, eqb-true b 1 q)
    by true p false q z = absurd (true≢false z)
    by false p t q z = absurd (true≢false z)

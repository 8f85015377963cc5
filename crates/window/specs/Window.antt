-- The window of a session's nonces: document 01, "Age, idleness and the window".
-- Bit d stands for the nonce d below the highest. Assumes nothing.
use Rattle.std.specs.Prelude.{ℕ, ◌-◌, ◌*◌, ◌/◌, ◌%◌, ◌^◌, Bool, true, false, cond, ltb, leb, eqb}
use Rattle.std.specs.Int.Bits.{bit_or}
use Rattle.window.specs.declared.Window.{Window}
use Rattle.window.specs.declared.Verdict.{Verdict}
use Rattle.window.specs.declared.Verdict.TheVariants.{Accepted, TooOld, Seen}
use Rattle.window.specs.declared.Stepped.{Stepped}

-- the numbers that a call returns
abbrev pub number_of : Verdict → ℕ
number_of Accepted = 0
number_of TooOld = 15
number_of Seen = 16

unfoldable pub bit : ℕ → ℕ → Bool
bit bits d = eqb (bits / 2 ^ d % 2) 1

-- moved up d places within 64, and the lowest set
unfoldable pub moved : ℕ → ℕ → ℕ
moved bits d = bit_or (bits * 2 ^ d % 2 ^ 64) 1

unfoldable pub marked : ℕ → ℕ → ℕ
marked bits d = bit_or bits (2 ^ d)

-- without a nonce yet
abbrev pub fresh : Window
fresh = record { any = false; highest = record { 0 = 0 }; bits = 0 }

abbrev pub accepted : ℕ → ℕ → Stepped
accepted highest bits = record { window = record { any = true; highest = record { 0 = highest }; bits = bits }; verdict = Accepted }

-- a refused nonce leaves the window as it was
abbrev pub refused : Window → Verdict → Stepped
refused window verdict = record { window = window; verdict = verdict }

-- the nonce is d above the highest: all bits are gone when d is 64 or more
abbrev pub above : Window → ℕ → ℕ → Stepped
above window nonce d = cond (leb 64 d) (accepted nonce 1) (accepted nonce (moved window.bits d))

-- the nonce is d below it
abbrev pub below : Window → ℕ → Stepped
below window d =
    cond (leb 64 d) (refused window TooOld)
    (cond (bit window.bits d) (refused window Seen)
    (accepted window.highest.0 (marked window.bits d)))

-- one nonce
unfoldable pub step_of : Window → ℕ → Stepped
step_of window nonce =
    cond window.any
    (cond (ltb window.highest.0 nonce)
    (above window nonce (nonce - window.highest.0))
    (below window (window.highest.0 - nonce)))
    (accepted nonce 1)

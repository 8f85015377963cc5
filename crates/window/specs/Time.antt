-- Times in seconds: document 01, "Age, idleness and the window", and document 02, K6, for a clock that runs ahead.
-- Assumes nothing.
use Rattle.std.specs.Prelude.{ℕ, Bool, ℤ, pos, ◌-ℤ◌}
use Rattle.std.specs.Int.Signed.{lt_z}

-- an integer, below zero where the clock that told the earlier time runs ahead
abbrev pub difference : ℕ → ℕ → ℤ
difference later earlier = pos later -ℤ pos earlier

-- the difference is more than the limit: so is a request too old or too far ahead, and so is a session idle
unfoldable pub exceeds : ℕ → ℕ → ℕ → Bool
exceeds later earlier limit = lt_z (pos limit) (difference later earlier)

-- how far ahead of now a request's time may be
abbrev pub most_ahead : ℕ
most_ahead = 30

-- What a reader of an expiry answers, by the text of its digits.
-- Assumes nothing.
use Rattle.std.specs.Prelude.{List, ◌≡◌, ℕ, ◌^◌, ◌<◌, Option, Some, None}
use Rattle.cells.specs.Decimal.{decimal}
use Rattle.window.specs.declared.time.Time.{Time}

-- they are those of a time in decimal, or of none
abbrev pub ExpiryIs : List ℕ → Option Time → Type 0
ExpiryIs digits (Some t) = (digits ≡ decimal t.0) × (t.0 < 2 ^ 32)
ExpiryIs digits None = (n : ℕ) → n < 2 ^ 32 → digits ≡ decimal n → ⊥

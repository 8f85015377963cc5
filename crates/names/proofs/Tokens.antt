-- The two numbers whose bits mark the bytes of a token agree with RFC 9110, by one computed test.
-- Assumes nothing.
use mathlib.Core.Path.{◌≡◌, refl, sym}
use mathlib.Core.Bool.{Bool, true, false, cond, beq}
use Prim.Native.Nat.{ℕ, ◌-◌, ◌/◌, ◌%◌, ◌^◌, ◌<◌}
use lib.Dec.{ltb, eqb}
use Rattle.cells.specs.Text.{codes}
use Rattle.cells.proofs.Tests.{every_below, every_at}
use Rattle.names.specs.Names.{has_byte, token_byte}

beq_eq : (a b : Bool) → beq a b ≡ true → a ≡ b
beq_eq true true h = refl
beq_eq true false h = sym h
beq_eq false true h = h
beq_eq false false h = refl

-- two tests that agree at each number below n
pub agree : (f g : ℕ → Bool) (n : ℕ) → every_below (λ (k : ℕ). beq (f k) (g k)) n ≡ true → (k : ℕ) → k < n → f k ≡ g k
agree f g n t k h = beq_eq (f k) (g k) (every_at (λ (m : ℕ). beq (f m) (g m)) n t k h)

-- what the code computes
abbrev pub marked : ℕ → Bool
marked b =
    cond (ltb b 64) (eqb (288068722172624896 / 2 ^ b % 2) 1) (cond (ltb b 128) (eqb (6341068274398134270 / 2 ^ (b - 64) % 2) 1) false)

pub marked_token : (b : ℕ) → b < 256 → marked b ≡ token_byte b
unfolding token_byte has_byte codes
marked_token b h = agree marked token_byte 256 refl b h

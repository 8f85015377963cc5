-- The multiplication of blocks: the bits of the first factor, as it is shifted to the left.
-- Assumes nothing.
use Rattle.std.proofs.Common.{◌≡◌, ℕ, suc, ◌+◌, ◌-◌, ◌*◌, ◌/◌, ◌%◌, ◌^◌, ◌<◌, sym, ap, ◌∙◌, arith}
use Rattle.std.proofs.lemmas.Nat.{field_of, shl-shr, shr-shr, mul-mod_first}
use Rattle.std.proofs.Math.Nat.{mul_assoc, pow-suc}
use Rattle.gcm.specs.Multiply.{bit_at}

-- the highest bit of what was shifted by i is bit i
pub highest : (x i : ℕ) → i < 128 → x * 2 ^ i % 2 ^ 128 / 2 ^ 127 ≡ bit_at x i
unfolding bit_at
highest x i h =
    let parts : 127 ≡ i + (127 - i) = omega arith in
    field_of (x * 2 ^ i) 1 127
    ∙ ap (λ (k : ℕ). x * 2 ^ i / 2 ^ k % 2) parts
    ∙ ap (λ (n : ℕ). n % 2) (sym (shr-shr (x * 2 ^ i) i (127 - i)) ∙ ap (λ (n : ℕ). n / 2 ^ (127 - i)) (shl-shr x i))

-- one place more
pub shifted_more : (x i : ℕ) → x * 2 ^ i % 2 ^ 128 * 2 % 2 ^ 128 ≡ x * 2 ^ suc i % 2 ^ 128
shifted_more x i =
    mul-mod_first (x * 2 ^ i) 2 (2 ^ 128) ∙ ap (λ (n : ℕ). n % 2 ^ 128) (mul_assoc x (2 ^ i) 2 ∙ ap (λ (n : ℕ). x * n) (sym (pow-suc 2 i)))

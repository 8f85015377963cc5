-- The value of digits, one after the other, and which digits are those of a number.
-- Assumes nothing.
use mathlib.Core.List.{List, [], ◌∷◌}
use mathlib.Core.Path.{◌≡◌, refl, sym, ap, ◌∙◌}
use Prim.Native.Nat.{ℕ, ◌+◌, ◌-◌, ◌*◌, ◌^◌, ◌<◌, ◌≤◌}
use native.Mathlib.Nat.{pow-le-pow_right}
use native.Mathlib.Numerals.{add-one}
use native.Mathlib.Omega.{arith}
use lib.ListN.{length, get_or, take}
use lib.Seq.{take-suc}
use Rattle.cells.specs.Decimal.{decimal, value_after}
use Rattle.cells.proofs.Digits.{value_append, value_decimal, decimal_injective}
use Rattle.std.specs.Prelude.{Option, Some, None}
use Rattle.window.specs.declared.time.Time.{Time}
use Rattle.token.specs.InnerExpiry.{ExpiryIs}

pub one_more : (digits : List ℕ) (i v : ℕ) → i < length digits → v ≡ value_after 0 (take i digits)
    → v * 10 + (get_or digits i 0 - 48) ≡ value_after 0 (take (i + 1) digits)
unfolding value_after
one_more digits i v h e = rw (add-one, take-suc digits i 0 h, value_append 0 (take i digits) (get_or digits i 0 ∷ []), e)

-- ten bytes taken for digits make a number that is far from 2 ^ 64
pub bounded_more : (i v d : ℕ) → v + 32 ≤ 32 * 16 ^ i → d ≤ 207 → v * 10 + d + 32 ≤ 32 * 16 ^ (i + 1)
bounded_more i v d h g = rw (add-one i) (omega arith)

pub bounded : (i v : ℕ) → i ≤ 10 → v + 32 ≤ 32 * 16 ^ i → v < 2 ^ 45
bounded i v h g = omega (arith, pow-le-pow_right {n = 16} (omega arith) h)

-- the only number whose digits they can be
pub only_number : (digits : List ℕ) (n : ℕ) → digits ≡ decimal n → value_after 0 digits ≡ n
only_number digits n e = ap (value_after 0) e ∙ value_decimal n

-- two answers that `expiry::read` may give are one
pub expiry_determined : (digits : List ℕ) (a b : Option Time) → ExpiryIs digits a → ExpiryIs digits b → a ≡ b
expiry_determined digits (Some s) (Some t) p q = ap (λ (n : ℕ). Some (record { 0 = n })) (decimal_injective s.0 t.0 (sym p.0 ∙ q.0))
expiry_determined digits (Some s) None p q = absurd (q s.0 p.1 p.0)
expiry_determined digits None (Some t) p q = absurd (p t.0 q.1 q.0)
expiry_determined digits None None p q = refl

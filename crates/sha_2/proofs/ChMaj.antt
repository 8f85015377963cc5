-- Ch and Maj with fewer operations than FIPS 180-4 writes them with: the same number, digit by digit.
-- Assumes nothing.
use Rattle.std.proofs.Common.{◌≡◌, ℕ, zero, suc, ◌-◌, ◌/◌, ◌%◌, ◌^◌, ◌<◌, refl, pow-suc, arith}
use lib.Bits.{bit_and, bit_xor, and_shr, and_mod, xor_shr, xor_mod}
use Rattle.sha_2.specs.Word.{complement}

digit : (P : ℕ → Type 0) → P 0 → P 1 → (a : ℕ) → a < 2 → P a
digit P p q zero h = p
digit P p q (suc zero) h = q
digit P p q (suc (suc a)) h = absurd (omega arith)

-- what holds of all digits
digits : (P : ℕ → ℕ → ℕ → Type 0) → P 0 0 0 → P 0 0 1 → P 0 1 0 → P 0 1 1 → P 1 0 0 → P 1 0 1 → P 1 1 0 → P 1 1 1
    → (a b c : ℕ) → a < 2 → b < 2 → c < 2 → P a b c
digits P p q r s t u v w a b c ha hb hc =
    digit (λ x. P x b c) (digit (λ y. P 0 y c) (digit (P 0 0) p q c hc) (digit (P 0 1) r s c hc) b hb)
    (digit (λ y. P 1 y c) (digit (P 1 0) t u c hc) (digit (P 1 1) v w c hc) b hb)
    a
    ha

-- equal halves and equal last digits
joined : {a b : ℕ} → a / 2 ≡ b / 2 → a % 2 ≡ b % 2 → a ≡ b
joined p q = omega arith

pub ch_shorter : (w x y z : ℕ) → x < 2 ^ w → y < 2 ^ w → z < 2 ^ w → bit_xor z (bit_and x (bit_xor y z)) ≡ bit_xor (bit_and x y) (bit_and (complement w x) z)
ch_shorter zero x y z hx hy hz =
    let ex : x ≡ 0 = omega arith in
    let ez : z ≡ 0 = omega arith in
    rw (ex, ez)
ch_shorter (suc w) x y z hx hy hz =
    let twice = pow-suc 2 w in
    let half : complement (suc w) x / 2 ≡ complement w (x / 2) = omega (arith, twice) in
    let last : complement (suc w) x % 2 ≡ 1 - x % 2 = omega (arith, twice) in
    joined
    (rw (xor_shr z _ 1, and_shr x _ 1, xor_shr y z 1, xor_shr (bit_and x y) _ 1, and_shr x y 1, and_shr _ z 1, half)
    (ch_shorter w (x / 2) (y / 2) (z / 2) (omega (arith, twice)) (omega (arith, twice)) (omega (arith, twice))))
    (rw (xor_mod z _ 1, and_mod x _ 1, xor_mod y z 1, xor_mod (bit_and x y) _ 1, and_mod x y 1, and_mod _ z 1, last)
    (digits (λ a b c. bit_xor c (bit_and a (bit_xor b c)) ≡ bit_xor (bit_and a b) (bit_and (1 - a) c)) refl refl refl refl refl refl refl refl (x % 2) (y % 2) (z % 2)
    (omega arith) (omega arith) (omega arith)))

pub maj_shorter : (w x y z : ℕ) → x < 2 ^ w → y < 2 ^ w → z < 2 ^ w → bit_xor y (bit_and (bit_xor x y) (bit_xor y z)) ≡ bit_xor (bit_xor (bit_and x y) (bit_and x z)) (bit_and y z)
maj_shorter zero x y z hx hy hz =
    let ex : x ≡ 0 = omega arith in
    let ey : y ≡ 0 = omega arith in
    rw (ex, ey)
maj_shorter (suc w) x y z hx hy hz =
    let twice = pow-suc 2 w in
    joined
    (rw (xor_shr y _ 1, and_shr (bit_xor x y) _ 1, xor_shr x y 1, xor_shr y z 1, xor_shr (bit_xor (bit_and x y) (bit_and x z)) _ 1, xor_shr (bit_and x y) _ 1, and_shr x y 1, and_shr x z 1, and_shr y z 1)
    (maj_shorter w (x / 2) (y / 2) (z / 2) (omega (arith, twice)) (omega (arith, twice)) (omega (arith, twice))))
    (rw (xor_mod y _ 1, and_mod (bit_xor x y) _ 1, xor_mod x y 1, xor_mod y z 1, xor_mod (bit_xor (bit_and x y) (bit_and x z)) _ 1, xor_mod (bit_and x y) _ 1, and_mod x y 1, and_mod x z 1, and_mod y z 1)
    (digits (λ a b c. bit_xor b (bit_and (bit_xor a b) (bit_xor b c)) ≡ bit_xor (bit_xor (bit_and a b) (bit_and a c)) (bit_and b c)) refl refl refl refl refl refl refl refl (x % 2) (y % 2) (z % 2)
    (omega arith) (omega arith) (omega arith)))

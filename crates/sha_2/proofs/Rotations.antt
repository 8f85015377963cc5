-- Rotations within rotations: the same number as rotations side by side, as FIPS 180-4 writes them.
-- Assumes nothing.
use Rattle.std.proofs.Common.{◌≡◌, ℕ, ◌+◌, ◌-◌, ◌*◌, ◌/◌, ◌%◌, ◌^◌, ◌<◌, sym, refl, ap, ◌∙◌, subst, ap₂, lt_of_le_of_lt, add_assoc, mod-lt, mul_assoc, add-mul, add_comm, arith, pow_pos, pow-add, shl_lt, shr-shr, shr_lt}
use lib.Arith.{digits_lt}
use lib.Bits.{bit_xor, or_lt, or_shifted_r, xor_block, xor_lt}
use lib.Pow.{high, low, split, shr_le}
use Rattle.sha_2.specs.Word.{ROTR}

-- the n lowest bits and the k above them change places
swapped : {w : ℕ} (n k h : ℕ) {s : ℕ} → w ≡ n + k → h < 2 ^ k → s < 2 ^ n → ROTR w n (h * 2 ^ n + s) ≡ s * 2 ^ k + h
swapped {w} n k h {s} e hh hs =
    let rest : w - n ≡ k = omega (arith, e) in
    let moved : (h * 2 ^ n + s) * 2 ^ k ≡ h * 2 ^ (n + k) + s * 2 ^ k = rw (pow-add 2 n k) (simp (add-mul, mul_assoc)) in
    rw (high h n hs, rest, moved, e, low h (n + k) (shl_lt n k hs)) (or_shifted_r s k h hh)

within : (w n x : ℕ) → x < 2 ^ w → ROTR w n x < 2 ^ w
within w n x h = or_lt w (x / 2 ^ n) _ (lt_of_le_of_lt (shr_le x n) h) (mod-lt _ (pow_pos w))

-- what lies above the n lowest of n + k bits
upper : {w : ℕ} (n k x : ℕ) → w ≡ n + k → x < 2 ^ w → x / 2 ^ n < 2 ^ k
upper n k x e h = shr_lt k n (rw (add_comm k n, ← e) h)

-- a rotation of two words that are mixed is their rotations, mixed
of_mixed : {w : ℕ} (n k x y : ℕ) → w ≡ n + k → x < 2 ^ w → y < 2 ^ w → ROTR w n (bit_xor x y) ≡ bit_xor (ROTR w n x) (ROTR w n y)
of_mixed {w} n k x y e hx hy =
    let p = mod-lt x (pow_pos n) in
    let q = mod-lt y (pow_pos n) in
    let r = upper n k x e hx in
    let s = upper n k y e hy in
    rw (← split x n, ← split y n, xor_block n (x / 2 ^ n) (y / 2 ^ n) (x % 2 ^ n) (y % 2 ^ n) p q)
    (swapped n k _ e (xor_lt k _ _ r s) (xor_lt n _ _ p q) ∙ sym (xor_block k (x % 2 ^ n) (y % 2 ^ n) (x / 2 ^ n) (y / 2 ^ n) r s) ∙ sym (ap₂ bit_xor (swapped n k _ e r p) (swapped n k _ e s q)))

regrouped : (p q r m n : ℕ) {k : ℕ} → k ≡ m + n → (p * 2 ^ m + q) * 2 ^ n + r ≡ p * 2 ^ k + (q * 2 ^ n + r)
regrouped p q r m n e = rw (e, pow-add 2 m n) (simp (add-mul, mul_assoc, add_assoc))

below : {p q : ℕ} (m n : ℕ) {k : ℕ} → k ≡ m + n → p < 2 ^ m → q < 2 ^ n → p * 2 ^ n + q < 2 ^ k
below m n e hp hq = rw (e, pow-add 2 m n) (digits_lt hp hq)

-- in a word of a + b + c bits, a rotation by a + b and then one by a + c are one by a: of its three parts, ..
parts_on : {w : ℕ} (a b c h l s : ℕ) → w ≡ a + b + c → h < 2 ^ c → l < 2 ^ b → s < 2 ^ a
    → ROTR w (a + c) (ROTR w (a + b) ((h * 2 ^ b + l) * 2 ^ a + s)) ≡ ROTR w a ((h * 2 ^ b + l) * 2 ^ a + s)
parts_on {w} a b c h l s e hh hl hs =
    ap (λ (y : ℕ). ROTR w (a + c) (ROTR w (a + b) y)) (regrouped h l s b a (omega arith))
    ∙ ap (ROTR w (a + c)) (swapped (a + b) c h e hh (below b a (omega arith) hl hs) ∙ regrouped l s h a c refl)
    ∙ swapped (a + c) b l (omega (arith, e)) hl (below a c refl hs hh)
    ∙ regrouped s h l c b (omega arith)
    ∙ sym (swapped a (b + c) (h * 2 ^ b + l) (omega (arith, e)) (below c b (omega arith) hh hl) hs)

-- .. and of the word itself
rotated_on : {w : ℕ} (a b c x : ℕ) → w ≡ a + b + c → x < 2 ^ w → ROTR w (a + c) (ROTR w (a + b) x) ≡ ROTR w a x
rotated_on {w} a b c x e hx =
    subst (λ (y : ℕ). ROTR w (a + c) (ROTR w (a + b) y) ≡ ROTR w a y) (rw (split (x / 2 ^ a) b) (split x a))
    (parts_on a b c (x / 2 ^ a / 2 ^ b) (x / 2 ^ a % 2 ^ b) (x % 2 ^ a) e (rw (shr-shr x a b) (upper (a + b) c x e hx)) (mod-lt _ (pow_pos b)) (mod-lt x (pow_pos a)))

-- two rotations by one within the other, and what is mixed in beside them
pub two_rotations : {w : ℕ} (a b c x z : ℕ) → w ≡ a + b + c → x < 2 ^ w
    → bit_xor (ROTR w (a + c) (bit_xor (ROTR w (a + b) x) x)) z ≡ bit_xor (bit_xor (ROTR w a x) (ROTR w (a + c) x)) z
two_rotations {w} a b c x z e hx =
    ap (λ (y : ℕ). bit_xor y z) (of_mixed (a + c) b (ROTR w (a + b) x) x (omega (arith, e)) (within w (a + b) x hx) hx ∙ ap (λ (y : ℕ). bit_xor y (ROTR w (a + c) x)) (rotated_on a b c x e hx))

-- all three of Σ0 and Σ1
pub three_rotations : {w : ℕ} (a b c d x : ℕ) → w ≡ a + b + c + d → x < 2 ^ w
    → ROTR w (a + b + d) (bit_xor (ROTR w (a + b + c) (bit_xor (ROTR w (a + (c + d)) x) x)) x) ≡ bit_xor (bit_xor (ROTR w a x) (ROTR w (a + b) x)) (ROTR w (a + b + d) x)
three_rotations {w} a b c d x e hx =
    let y = bit_xor (ROTR w (a + (c + d)) x) x in
    let hy = xor_lt w _ x (within w (a + (c + d)) x hx) hx in
    of_mixed (a + b + d) c (ROTR w (a + b + c) y) x (omega (arith, e)) (within w (a + b + c) y hy) hx
    ∙ ap (λ (z : ℕ). bit_xor z (ROTR w (a + b + d) x)) (rotated_on (a + b) c d y e hy)
    ∙ two_rotations a (c + d) b x (ROTR w (a + b + d) x) (omega (arith, e)) hx

-- What each bit of a window's word is after a mark and after a move; and that words with the same bits are equal.
-- Assumes nothing.
use mathlib.Core.Path.{◌≡◌, refl, sym, ap, ap₂, ◌∙◌}
use mathlib.Core.Logic.{◌⊎◌, inl, inr, ⊎_elim}
use mathlib.Core.Bool.{Bool, true, false, ◌&&◌, ◌||◌}
use Prim.Native.Nat.{ℕ, zero, suc, ◌+◌, ◌-◌, ◌*◌, ◌/◌, ◌%◌, ◌^◌, ◌<◌, ◌≤◌, max}
use native.Mathlib.Nat.{one-mul, zero-div, div-one, pow-suc, mod-lt, div-eq_of_lt, mul-add-mod_self_right, mul_assoc}
use native.Mathlib.Omega.{arith}
use borrow.Author.Tests.{ltb-true, ltb-false, le-leb, lt-leb, eqb-true, eqb-false, eq-eqb, ne_eqb}
use lib.Bits.{bit_or, or_shr, or_step, shifted_even}
use lib.Dec.{lit<, ltb, eqb, leb}
use lib.Pow.{shl_exact, pow-lt, pow-add, field, mod-mod-pow, split, shr-shr, shl-shr}
use Rattle.window.specs.Window.{bit, moved, marked}

-- the two cases of an order
pub order : (a b : ℕ) → (a < b) ⊎ (b ≤ a)
order a b = by (ltb a b) refl
  where
    by : (t : Bool) → ltb a b ≡ t → (a < b) ⊎ (b ≤ a)
    by true e = inl (ltb-true a b e)
    by false e = inr (ltb-false a b e)

-- two tests of equal numbers that hold together
pub alike : (a b c d : ℕ) → (a ≡ b → c ≡ d) → (c ≡ d → a ≡ b) → eqb a b ≡ eqb c d
alike a b c d f g = by (eqb a b) refl
  where
    by : (t : Bool) → eqb a b ≡ t → eqb a b ≡ eqb c d
    by true e = e ∙ sym (eq-eqb c d (f (eqb-true a b e)))
    by false e = e ∙ sym (ne_eqb c d (λ k. eqb-false a b e (g k)))

same_parity : (a b : ℕ) → eqb (a % 2) 1 ≡ eqb (b % 2) 1 → a % 2 ≡ b % 2
same_parity a b e = by (eqb (a % 2) 1) refl
  where
    by : (t : Bool) → eqb (a % 2) 1 ≡ t → a % 2 ≡ b % 2
    by true p = eqb-true (a % 2) 1 p ∙ sym (eqb-true (b % 2) 1 (sym e ∙ p))
    by false p =
        let x = eqb-false (a % 2) 1 p in
        let y = eqb-false (b % 2) 1 (sym e ∙ p) in
        omega (arith, mod-lt a {m = 2} (lit< tt), mod-lt b {m = 2} (lit< tt))

-- numbers of k bits are equal if those are
pub same_bits : (k a b : ℕ) → a < 2 ^ k → b < 2 ^ k → ((d : ℕ) → d < k → bit a d ≡ bit b d) → a ≡ b
unfolding bit
same_bits zero a b f g same = omega arith
same_bits (suc k) a b f g same =
    let halves : a / 2 ≡ b / 2 =
    same_bits k (a / 2) (b / 2) (omega (arith, pow-suc 2 k)) (omega (arith, pow-suc 2 k))
    (λ d l. ap (λ (q : ℕ). eqb (q % 2) 1) (shr-shr a 1 d) ∙ same (1 + d) (omega arith) ∙ sym (ap (λ (q : ℕ). eqb (q % 2) 1) (shr-shr b 1 d)))
    in
    let lowest : a % 2 ≡ b % 2 = same_parity a b (ap (λ (q : ℕ). eqb (q % 2) 1) (sym (div-one a)) ∙ same 0 (omega arith) ∙ ap (λ (q : ℕ). eqb (q % 2) 1) (div-one b)) in
    sym (split a 1) ∙ ap₂ (λ (q r : ℕ). q * 2 + r) halves lowest ∙ split b 1

-- a one in a word of 64 bits, moved within it
pub one_moved : (d : ℕ) → d < 64 → 1 * 2 ^ d % 2 ^ 64 ≡ 2 ^ d
one_moved d h = shl_exact {a = 1} 1 d 64 (lit< tt) (omega arith) ∙ one-mul (2 ^ d)

-- a number moved up s places has no bit below s, and at d the bit that stood s below
raised : (n s d : ℕ) → bit (n * 2 ^ s) d ≡ (leb s d && bit n (d - s))
unfolding bit
raised n s d =
    ⊎_elim
    (λ l.
    let k = s - suc d in
    let whole : s ≡ suc k + d = omega arith in
    let above : n * 2 ^ s / 2 ^ d ≡ n * 2 ^ suc k =
    ap (λ (j : ℕ). n * 2 ^ j / 2 ^ d) whole ∙ ap (λ (q : ℕ). n * q / 2 ^ d) (pow-add 2 (suc k) d) ∙ rw (← mul_assoc, shl-shr)
    in
    rw (lt-leb s d l, above, shifted_even n k))
    (λ l.
    let whole : n * 2 ^ s / 2 ^ (s + (d - s)) ≡ n / 2 ^ (d - s) = rw (← (shr-shr (n * 2 ^ s) s (d - s)), shl-shr n s) in
    let place : s + (d - s) ≡ d = omega arith in
    rw (le-leb s d l, ← whole, place))
    (order d s)

-- the bits of zero and of one
pub no_bit : (d : ℕ) → bit 0 d ≡ false
unfolding bit
no_bit d = ap (λ (q : ℕ). eqb (q % 2) 1) (zero-div (2 ^ d))

one_bit : (d : ℕ) → bit 1 d ≡ eqb 0 d
unfolding bit
one_bit zero = refl
one_bit (suc d) = ap (λ (q : ℕ). eqb (q % 2) 1) (div-eq_of_lt (pow-lt {i = 0} {j = suc d} (omega arith))) ∙ sym (ne_eqb 0 (suc d) (λ e. omega arith))

-- a power has one bit
pub bit_power : (s d : ℕ) → bit (2 ^ s) d ≡ eqb s d
bit_power s d =
    ap (λ (n : ℕ). bit n d) (sym (one-mul (2 ^ s))) ∙ raised 1 s d
    ∙ ⊎_elim (λ l. rw (lt-leb s d l) (sym (ne_eqb s d (λ k. omega arith))))
    (λ l. rw (le-leb s d l) (one_bit (d - s) ∙ alike 0 (d - s) s d (λ e. omega arith) (λ e. omega arith)))
    (order d s)

-- a word of 64 bits keeps those of a number that it has
kept : (n d : ℕ) → d < 64 → bit (n % 2 ^ 64) d ≡ bit n d
unfolding bit
kept n d h =
    let k = 63 - d in
    let whole : 64 ≡ (k + 1) + d = omega arith in
    ap (λ (w : ℕ). eqb (n % 2 ^ w / 2 ^ d % 2) 1) whole
    ∙ ap (λ (q : ℕ). eqb (q % 2) 1) (field n (k + 1) d)
    ∙ ap (λ (r : ℕ). eqb r 1) (mod-mod-pow (n / 2 ^ d) k 1)

larger : (p q : ℕ) → p < 2 → q < 2 → eqb (max p q % 2) 1 ≡ (eqb p 1 || eqb q 1)
larger zero zero h k = refl
larger zero (suc zero) h k = refl
larger (suc zero) zero h k = refl
larger (suc zero) (suc zero) h k = refl
larger zero (suc (suc q)) h k = absurd (omega arith)
larger (suc zero) (suc (suc q)) h k = absurd (omega arith)
larger (suc (suc p)) q h k = absurd (omega arith)

joined : (a b d : ℕ) → bit (bit_or a b) d ≡ (bit a d || bit b d)
unfolding bit
joined a b d =
    let x = a / 2 ^ d in
    let y = b / 2 ^ d in
    ap (λ (n : ℕ). eqb (n % 2) 1) (or_shr a b d ∙ or_step x y)
    ∙ ap (λ (n : ℕ). eqb n 1) (mul-add-mod_self_right (bit_or (x / 2) (y / 2)) 2 (max (x % 2) (y % 2)))
    ∙ larger (x % 2) (y % 2) (mod-lt x (lit< tt)) (mod-lt y (lit< tt))

pub bit_marked : (bits s d : ℕ) → bit (marked bits s) d ≡ (bit bits d || eqb s d)
unfolding marked
bit_marked bits s d = rw (joined bits (2 ^ s) d, bit_power s d)

pub bit_moved : (bits s d : ℕ) → d < 64 → bit (moved bits s) d ≡ ((leb s d && bit bits (d - s)) || eqb 0 d)
unfolding moved
bit_moved bits s d h = rw (joined (bits * 2 ^ s % 2 ^ 64) 1 d, kept (bits * 2 ^ s) d h, raised bits s d, one_bit d)

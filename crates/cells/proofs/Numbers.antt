-- A number and its bytes, highest first, determine each other.
-- Assumes nothing.
use mathlib.Core.Path.{◌≡◌, refl, sym, ap, ap₂, ◌∙◌}
use mathlib.Core.List.{List, [], ◌∷◌, ◌++◌}
use Prim.Native.Nat.{ℕ, zero, suc, ◌+◌, ◌*◌, ◌/◌, ◌%◌, ◌^◌, ◌<◌}
use native.Mathlib.Nat.{zero-add, suc-add, add_assoc, mul_assoc, add-mul, mod-lt, mod-one, mod-eq_of_lt, mul-add-mod_self_right, mul-add-div_right}
use native.Mathlib.Omega.{arith}
use lib.Arith.{digits_lt}
use lib.Pow.{pow_pos, pow-add, mod-pow-add, high, shr-shr}
use lib.ListN.{length, length-append}
use Rattle.cells.specs.Runs.{Bytes}
use Rattle.cells.specs.Numbers.{bytes_of, number}

eight_more : (k : ℕ) → 8 * suc k ≡ 8 + 8 * k
eight_more k = omega arith

pub length_bytes_of : (k n : ℕ) → length (bytes_of k n) ≡ k
unfolding bytes_of
length_bytes_of zero n = refl
length_bytes_of (suc k) n = ap suc (length_bytes_of k n)

-- the bytes of a number are bytes
pub bytes_bytes_of : (k n : ℕ) → Bytes (bytes_of k n)
unfolding bytes_of
bytes_bytes_of zero n i = omega arith
bytes_bytes_of (suc k) n zero = mod-lt (n / 2 ^ (8 * k)) (omega arith)
bytes_bytes_of (suc k) n (suc i) = bytes_bytes_of k n i

-- the rest of a run of bytes is one, and so are a byte before one, and two joined
pub bytes_rest : (b : ℕ) (bs : List ℕ) → Bytes (b ∷ bs) → Bytes bs
bytes_rest b bs h i = h (suc i)

pub bytes_first : (b : ℕ) (bs : List ℕ) → b < 256 → Bytes bs → Bytes (b ∷ bs)
bytes_first b bs h k zero = h
bytes_first b bs h k (suc i) = k i

pub bytes_joined : (xs ys : List ℕ) → Bytes xs → Bytes ys → Bytes (xs ++ ys)
bytes_joined [] ys h k = k
bytes_joined (x ∷ xs) ys h k = bytes_first x (xs ++ ys) (h 0) (bytes_joined xs ys (bytes_rest x xs h) k)

pub number_below : (bs : List ℕ) → Bytes bs → number bs < 2 ^ (8 * length bs)
unfolding number
number_below [] h = omega arith
number_below (b ∷ bs) h =
    rw (eight_more (length bs), pow-add 2 8 (8 * length bs)) (digits_lt (h 0) (number_below bs (bytes_rest b bs h)))

-- the number of a number's k lowest bytes
pub number_bytes_of : (k n : ℕ) → number (bytes_of k n) ≡ n % 2 ^ (8 * k)
unfolding number bytes_of
number_bytes_of zero n = sym (mod-one n)
number_bytes_of (suc k) n =
    ap₂ (λ (l r : ℕ). (n / 2 ^ (8 * k) % 256) * 2 ^ (8 * l) + r) (length_bytes_of k n) (number_bytes_of k n)
    ∙ sym (ap (λ (e : ℕ). n % 2 ^ e) (eight_more k) ∙ mod-pow-add n 8 (8 * k))

-- a number that fits k bytes is that of its bytes
pub number_of : (k n : ℕ) → n < 2 ^ (8 * k) → number (bytes_of k n) ≡ n
number_of k n h = number_bytes_of k n ∙ mod-eq_of_lt h

-- what stands above the k lowest bytes does not matter to them
pub bytes_of_low : (k a r : ℕ) → bytes_of k (a * 2 ^ (8 * k) + r) ≡ bytes_of k r
unfolding bytes_of
bytes_of_low zero a r = refl
bytes_of_low (suc k) a r =
    let split : a * 2 ^ (8 * suc k) + r ≡ a * 256 * 2 ^ (8 * k) + r = rw (eight_more k, pow-add 2 8 (8 * k)) (ap (λ (q : ℕ). q + r) (sym (mul_assoc a 256 (2 ^ (8 * k))))) in
    rw (split, mul-add-div_right (pow_pos (8 * k)) (a * 256) r, mul-add-mod_self_right a 256 (r / 2 ^ (8 * k)), bytes_of_low k (a * 256) r)

-- a run of bytes is that of its number
pub bytes_of_number : (bs : List ℕ) → Bytes bs → bytes_of (length bs) (number bs) ≡ bs
unfolding number bytes_of
bytes_of_number [] h = refl
bytes_of_number (b ∷ bs) h =
    let rest = bytes_rest b bs h in
    ap₂ ◌∷◌ (ap (λ (q : ℕ). q % 256) (high b (8 * length bs) (number_below bs rest)) ∙ mod-eq_of_lt (h 0))
    (bytes_of_low (length bs) b (number bs) ∙ bytes_of_number bs rest)

pub number_append : (bs cs : List ℕ) → number (bs ++ cs) ≡ number bs * 2 ^ (8 * length cs) + number cs
unfolding number
number_append [] cs = omega arith
number_append (b ∷ bs) cs =
    let size : 8 * length (bs ++ cs) ≡ 8 * length bs + 8 * length cs = omega (arith, length-append bs cs) in
    rw (number_append bs cs, size, pow-add 2 (8 * length bs) (8 * length cs)) (simp (add-mul, mul_assoc, add_assoc))

pub bytes_of_append : (j k n : ℕ) → bytes_of (j + k) n ≡ bytes_of j (n / 2 ^ (8 * k)) ++ bytes_of k n
unfolding bytes_of
bytes_of_append zero k n = ap (λ (m : ℕ). bytes_of m n) (zero-add k)
bytes_of_append (suc j) k n =
    let sum : 8 * (j + k) ≡ 8 * k + 8 * j = omega arith in rw (suc-add j k, bytes_of_append j k n, sum, ← (shr-shr n (8 * k) (8 * j)))

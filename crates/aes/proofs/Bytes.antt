-- The cipher of a block is bytes where the key is.
-- Assumes nothing.
use mathlib.Core.Bool.{Bool, true, false}
use mathlib.Core.List.{List, []}
use Prim.Native.Nat.{ℕ, zero, suc, ◌+◌, ◌-◌, ◌*◌, ◌/◌, ◌%◌, ◌^◌, ◌<◌}
use native.Mathlib.Nat.{mod-lt}
use native.Mathlib.Omega.{arith}
use lib.Bits.{bit_xor, xor_lt}
use lib.Dec.{eqb}
use lib.ListN.{get_or}
use Rattle.cells.specs.Runs.{Bytes}
use Rattle.cells.specs.Numbers.{bytes_of}
use Rattle.cells.proofs.Numbers.{bytes_bytes_of, bytes_first, bytes_joined}
use Rattle.aes.specs.Field.{xtimes, power_of_x}
use Rattle.aes.specs.Sbox.{inverse, bit, affine_bit, affine_bits, sub_byte}
use Rattle.aes.specs.Cipher.{entry, column, state, sub_bytes, shift_rows, scheduled, add_round_key, rounds, cipher, word_of, word_at, xor_word, rot_word, sub_word, rcon, pick, temp, next_word, expanded, key_expansion, aes256}

affine_bit_lem : (b i : ℕ) → affine_bit b i < 2
unfolding affine_bit
affine_bit_lem b i =
    with_bit i (with_bit ((i + 4) % 8) (with_bit ((i + 5) % 8) (with_bit ((i + 6) % 8) (with_bit ((i + 7) % 8) (mod-lt (0x63 / 2 ^ i) (omega arith))))))
  where
    with_bit : (k : ℕ) {c : ℕ} → c < 2 → bit_xor (bit b k) c < 2
    with_bit k h = xor_lt 1 _ _ (mod-lt (b / 2 ^ k) (omega arith)) h

sub_byte_lem : (b : ℕ) → sub_byte b < 256
unfolding sub_byte affine_bits
sub_byte_lem b =
    let a = affine_bit_lem (inverse b) in
    omega (arith, a 0, a 1, a 2, a 3, a 4, a 5, a 6, a 7)

power_byte : (n : ℕ) → power_of_x n < 256
unfolding power_of_x xtimes
power_byte zero = omega arith
power_byte (suc n) =
    xor_lt 8 (power_of_x n * 2 % 256) (power_of_x n / 128 * 0x1b) (mod-lt (power_of_x n * 2) (omega arith)) (omega (arith, power_byte n))

bytes_column : (f : ℕ → ℕ → ℕ) (c : ℕ) (rest : List ℕ) → ((r c : ℕ) → f r c < 256) → Bytes rest → Bytes (column f c rest)
bytes_column f c rest h k zero = h 0 c
bytes_column f c rest h k (suc zero) = h 1 c
bytes_column f c rest h k (suc (suc zero)) = h 2 c
bytes_column f c rest h k (suc (suc (suc zero))) = h 3 c
bytes_column f c rest h k (suc (suc (suc (suc i)))) = k i

bytes_word : (f : ℕ → ℕ) → ((r : ℕ) → f r < 256) → Bytes (word_of f)
bytes_word f h = bytes_column (λ r c. f r) 0 [] (λ r c. h r) (λ i. omega arith)

bytes_state : (f : ℕ → ℕ → ℕ) → ((r c : ℕ) → f r c < 256) → Bytes (state f)
bytes_state f h =
    let last = column f 3 [] in
    let later = column f 2 last in
    bytes_column f 0 (column f 1 later) h (bytes_column f 1 later h (bytes_column f 2 last h (bytes_column f 3 [] h (λ i. omega arith))))

bytes_xor : (s t : List ℕ) → Bytes s → Bytes t → Bytes (xor_word s t)
unfolding xor_word
bytes_xor s t h k = bytes_word (λ r. bit_xor (get_or s r 0) (get_or t r 0)) (λ r. xor_lt 8 (get_or s r 0) (get_or t r 0) (h r) (k r))

bytes_pick : (b : Bool) (s t : List ℕ) → Bytes s → Bytes t → Bytes (pick b s t)
bytes_pick true s t h k = h
bytes_pick false s t h k = k

bytes_temp : (t : List ℕ) (i : ℕ) → Bytes t → Bytes (temp t i)
unfolding temp rcon bytes_of sub_word
bytes_temp t i h =
    let constant = bytes_first (power_of_x (i / 8 - 1)) (bytes_of 3 0) (power_byte (i / 8 - 1)) (bytes_bytes_of 3 0) in
    let substituted : (w : List ℕ) → Bytes (sub_word w) = λ w. bytes_word (λ r. sub_byte (get_or w r 0)) (λ r. sub_byte_lem (get_or w r 0)) in
    bytes_pick (eqb (i % 8) 0) (xor_word (sub_word (rot_word t)) (rcon (i / 8))) (pick (eqb (i % 8) 4) (sub_word t) t)
    (bytes_xor (sub_word (rot_word t)) (rcon (i / 8)) (substituted (rot_word t)) constant)
    (bytes_pick (eqb (i % 8) 4) (sub_word t) t (substituted t) h)

bytes_expanded : (key : List ℕ) (n : ℕ) → Bytes key → Bytes (expanded key n)
unfolding expanded next_word word_at scheduled
bytes_expanded key zero h = h
bytes_expanded key (suc n) h =
    let w = expanded key n in
    let before = bytes_expanded key n h in
    let word : (i : ℕ) → Bytes (word_at w i) = λ i. bytes_word (scheduled w i) (λ r. before (4 * i + r)) in
    bytes_joined w (next_word w (8 + n)) before
    (bytes_xor (word_at w (8 + n - 8)) (temp (word_at w (8 + n - 1)) (8 + n)) (word (8 + n - 8)) (bytes_temp (word_at w (8 + n - 1)) (8 + n) (word (8 + n - 1))))

-- the last round's substitution gives bytes, whatever came before it
pub bytes_aes256 : (key block : List ℕ) → Bytes key → Bytes (aes256 key block)
unfolding aes256 cipher key_expansion sub_bytes shift_rows add_round_key scheduled
bytes_aes256 key block h =
    let w = key_expansion key in
    let before = rounds w (add_round_key block w 0) 13 in
    let substituted = bytes_state (λ r c. sub_byte (entry before r c)) (λ r c. sub_byte_lem (entry before r c)) in
    let shifted = bytes_state (λ r c. entry (sub_bytes before) r (c + r)) (λ r c. substituted (r % 4 + 4 * ((c + r) % 4))) in
    bytes_state (λ r c. bit_xor (entry (shift_rows (sub_bytes before)) r c) (scheduled w (56 + c) r))
    (λ r c. xor_lt 8 (entry (shift_rows (sub_bytes before)) r c) (scheduled w (56 + c) r) (shifted (r % 4 + 4 * (c % 4))) (bytes_expanded key 52 h (4 * (56 + c) + r)))

-- GHASH of a padded run goes block by block, and ends with the block of the lengths.
-- Assumes nothing.
use mathlib.Core.List.{List, [], ◌∷◌, ◌++◌}
use mathlib.Core.Path.{◌≡◌, refl, ap₂, ◌∙◌}
use Prim.Native.Nat.{ℕ, zero, suc, ◌+◌, ◌-◌, ◌*◌, ◌/◌, ◌%◌, ◌^◌, ◌≤◌, ◌<◌, min}
use native.Mathlib.Nat.{add-zero, not-suc-le-zero, sub-zero, suc-sub-suc}
use native.Mathlib.Numerals.{add-one}
use native.Mathlib.Omega.{arith}
use lib.Bits.{bit_xor}
use lib.ListN.{length, take, drop, replicate, length-append, length-replicate, length-drop}
use lib.Seq.{take_all, take-nil, drop_at, take-append-le, drop-append-le}
use Rattle.cells.specs.Runs.{part}
use Rattle.cells.specs.Numbers.{bytes_of, number}
use Rattle.cells.proofs.Numbers.{length_bytes_of, number_append, number_of}
use Rattle.gcm.specs.Multiply.{product}
use Rattle.gcm.specs.Ghash.{hashed, ghash}
use Rattle.gcm.specs.Gcm.{padded, hash_input}
use Rattle.gcm.proofs.Masking.{chunk_is}

-- a run cut at k and filled with zeros up to k, and the run with zeros after it cut at k
cut_filled : (k z : ℕ) (xs : List ℕ) → k ≤ length xs + z → take k xs ++ replicate (k - length (take k xs)) 0 ≡ take k (xs ++ replicate z 0)
cut_filled zero z xs h = refl
cut_filled (suc k) zero [] h = absurd (not-suc-le-zero (rw add-zero at h))
cut_filled (suc k) (suc z) [] h = rw (sub-zero, ← (cut_filled k z [] (omega arith)), take-nil, sub-zero)
cut_filled (suc k) z (x ∷ xs) h = rw (suc-sub-suc, cut_filled k z xs (omega arith))

-- a block of a padded run is that of the run, and zeros
pub padded_part : (xs : List ℕ) (n : ℕ) → 16 * n < length xs
    → part xs (16 * n) 16 ++ replicate (16 - length (part xs (16 * n) 16)) 0 ≡ part (padded xs) (16 * n) 16
unfolding padded
padded_part xs n h =
    rw (drop-append-le (16 * n) xs (replicate ((16 - length xs % 16) % 16) 0) (omega arith))
    (cut_filled 16 ((16 - length xs % 16) % 16) (drop (16 * n) xs) (omega (arith, length-drop (16 * n) xs)))

-- a turn of the loop over the blocks
pub hashed_more : (h : ℕ) (xs chunk rest : List ℕ) (n : ℕ) {y : ℕ} → drop (16 * n) xs ≡ chunk ++ rest → length chunk ≡ min 16 (length xs - 16 * n) → 16 * n < length xs
    → y ≡ hashed h (padded xs) n
    → product (bit_xor y (number (chunk ++ replicate (16 - length chunk) 0))) h ≡ hashed h (padded xs) (n + 1)
unfolding hashed
hashed_more h xs chunk rest n e size lt ey = rw (chunk_is xs chunk rest (16 * n) e size, padded_part xs n lt, ey, add-one)

-- what follows n blocks does not matter to them
hashed_front : (h : ℕ) (xs ys : List ℕ) (n : ℕ) → 16 * n ≤ length xs → hashed h (xs ++ ys) n ≡ hashed h xs n
unfolding hashed
hashed_front h xs ys zero k = refl
hashed_front h xs ys (suc n) k =
    let fits : 16 ≤ length (drop (16 * n) xs) = omega (arith, length-drop (16 * n) xs) in
    rw (hashed_front h xs ys n (omega arith), drop-append-le (16 * n) xs ys (omega arith), take-append-le 16 (drop (16 * n) xs) ys fits)

length_padded : (xs : List ℕ) → length (padded xs) ≡ 16 * ((length xs + 15) / 16)
unfolding padded
length_padded xs =
    length-append xs (replicate ((16 - length xs % 16) % 16) 0) ∙ omega (arith, length-replicate {A = ℕ} ((16 - length xs % 16) % 16) 0)

-- the block of the lengths, without associated data
lengths : (n : ℕ) → n < 2 ^ 64 → number (bytes_of 8 0 ++ bytes_of 8 n) ≡ n
lengths n h =
    number_append (bytes_of 8 0) (bytes_of 8 n)
    ∙ ap₂ (λ (a b : ℕ). a * 2 ^ (8 * length (bytes_of 8 n)) + b) (number_of 8 0 (omega arith)) (number_of 8 n h)
    ∙ omega arith

ghash_last : (h : ℕ) (xs ys : List ℕ) (n : ℕ) → length xs ≡ 16 * n → length ys ≡ 16
    → ghash h (xs ++ ys) ≡ product (bit_xor (hashed h xs n) (number ys)) h
unfolding ghash hashed
ghash_last h xs ys n e f =
    let blocks : length (xs ++ ys) / 16 ≡ suc n = omega (arith, length-append xs ys) in
    rw (blocks, hashed_front h xs ys n (omega arith), drop_at xs ys (16 * n) e, take_all 16 ys (omega arith))

-- the hash of a cipher text without associated data
pub digested : (h : ℕ) (xs : List ℕ) {y : ℕ} → length xs < 2 ^ 61 → y ≡ hashed h (padded xs) ((length xs + 15) / 16)
    → product (bit_xor y (8 * length xs)) h ≡ ghash h (hash_input [] xs)
unfolding hash_input padded
digested h xs k ey =
    let size : length (bytes_of 8 0 ++ bytes_of 8 (8 * length xs)) ≡ 16 = simp (length-append, length_bytes_of) in
    rw (ey, ghash_last h (padded xs) (bytes_of 8 0 ++ bytes_of 8 (8 * length xs)) ((length xs + 15) / 16) (length_padded xs) size, lengths (8 * length xs) (omega arith))

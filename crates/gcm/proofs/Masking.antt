-- GCTR: how it grows block by block, and that it takes itself back.
-- Assumes nothing.
use mathlib.Core.List.{List, ◌++◌}
use mathlib.Core.Logic.{⊎_elim}
use mathlib.Core.Path.{◌≡◌, refl, sym, ap, ap₂, ◌∙◌}
use Prim.Native.Nat.{ℕ, zero, suc, ◌+◌, ◌-◌, ◌*◌, ◌/◌, ◌≤◌, ◌<◌, min}
use native.Mathlib.Nat.{not-suc-le-zero, le_of_suc-le-suc, eq-or-lt_of_le}
use native.Mathlib.Numerals.{add-one}
use native.Mathlib.Omega.{arith}
use lib.ListN.{length, take, drop, take-append-drop, length-append, length-take, length-drop}
use lib.Seq.{take_all, take_at, take-add, drop_at, take-append-le, drop-append-le}
use Rattle.aes.specs.Cipher.{cipher, key_expansion, aes256}
use Rattle.aes.proofs.Cipher.{cipher_expanded, length_aes256}
use Rattle.cells.proofs.Runs.{front_spliced}
use Rattle.cells.specs.Runs.{part, spliced}
use Rattle.cells.specs.Numbers.{bytes_of}
use Rattle.gcm.specs.Gctr.{counter_at, added, masked_block, masked, gctr}
use Rattle.gcm.proofs.Addition.{length_added, added_back}

-- the length of a block of a run, and the block by its length
pub length_block : (xs : List ℕ) (at : ℕ) → length (part xs at 16) ≡ min 16 (length xs - at)
length_block xs at = length-take 16 (drop at xs) ∙ ap (min 16) (length-drop at xs)

block_part : (xs : List ℕ) (at e : ℕ) → e ≡ at + min 16 (length xs - at) → take (e - at) (drop at xs) ≡ part xs at 16
block_part xs at e h =
    ap (take (e - at)) (sym (take-append-drop 16 (drop at xs)))
    ∙ take_at (part xs at 16) (drop 16 (drop at xs)) (e - at) (length_block xs at ∙ omega arith)

-- a chunk that comes off what is left of a run is the block there
module _ (xs chunk rest : List ℕ) (at : ℕ) (h : drop at xs ≡ chunk ++ rest) (size : length chunk ≡ min 16 (length xs - at)) where
  pub chunk_is : chunk ≡ part xs at 16
  chunk_is =
      let n : length chunk ≡ at + length chunk - at = omega arith in
      sym (take_at chunk rest (length chunk) refl)
      ∙ ap (take (length chunk)) (sym h)
      ∙ ap (λ (k : ℕ). take k (drop at xs)) n
      ∙ block_part xs at (at + length chunk) (omega (arith, size))

-- what is lent of two runs of one length for a block
pub length_lent : (xs : List ℕ) (at e : ℕ) → e ≡ at + min 16 (length xs - at) → length (take (e - at) (drop at xs)) ≡ e - at
length_lent xs at e h = length-take (e - at) (drop at xs) ∙ omega (arith, length-drop at xs)

pub length_added_lent : (xs ys : List ℕ) (at e : ℕ) → e ≡ at + min 16 (length xs - at) → length ys ≡ 16
    → length (added (take (e - at) (drop at xs)) ys) ≡ e - at
length_added_lent xs ys at e h k =
    length_added (take (e - at) (drop at xs)) ys (omega (arith, length_lent xs at e h)) ∙ length_lent xs at e h

module _ (key : List ℕ) (icb : ℕ) (xs : List ℕ) where
  pub length_masked_block : (n : ℕ) → length (masked_block key icb xs n) ≡ min 16 (length xs - 16 * n)
  unfolding masked_block
  length_masked_block n =
      length_added (part xs (16 * n) 16) (aes256 key (bytes_of 16 (counter_at icb n))) (omega (arith, length_block xs (16 * n), length_aes256 key (bytes_of 16 (counter_at icb n))))
      ∙ length_block xs (16 * n)

  pub length_masked : (n : ℕ) → length (masked key icb xs n) ≡ min (16 * n) (length xs)
  unfolding masked
  length_masked zero = omega arith
  length_masked (suc n) =
      length-append (masked key icb xs n) (masked_block key icb xs n) ∙ omega (arith, length_masked n, length_masked_block n)

  -- the blocks of what is masked
  masked_last : (n : ℕ) → 16 * n < length xs → part (masked key icb xs (suc n)) (16 * n) 16 ≡ masked_block key icb xs n
  unfolding masked
  masked_last n h =
      ap (take 16) (drop_at (masked key icb xs n) (masked_block key icb xs n) (16 * n) (length_masked n ∙ omega arith))
      ∙ take_all 16 (masked_block key icb xs n) (omega (arith, length_masked_block n))

  masked_before : (m n : ℕ) → n < m → 16 * m < length xs → part (masked key icb xs (suc m)) (16 * n) 16 ≡ part (masked key icb xs m) (16 * n) 16
  unfolding masked
  masked_before m n h k =
      let front = masked key icb xs m in
      let last = masked_block key icb xs m in
      let size : length front ≡ 16 * m = length_masked m ∙ omega arith in
      ap (take 16) (drop-append-le (16 * n) front last (omega arith))
      ∙ take-append-le 16 (drop (16 * n) front) last (omega (arith, length-drop (16 * n) front))

  masked_part : (m n : ℕ) → n < m → 16 * m < length xs + 16 → part (masked key icb xs m) (16 * n) 16 ≡ masked_block key icb xs n
  masked_part zero n h k = absurd (not-suc-le-zero h)
  masked_part (suc m) n h k =
      ⊎_elim (λ e. ap (λ (i : ℕ). part (masked key icb xs (suc m)) (16 * i) 16) e ∙ masked_last m (omega arith) ∙ ap (masked_block key icb xs) (sym e))
      (λ lt. masked_before m n lt (omega arith) ∙ masked_part m n lt (omega arith))
      (eq-or-lt_of_le (le_of_suc-le-suc h))

  -- a turn of the loop over the blocks, of which the last may be short
  pub masked_more : (n : ℕ) (out x : List ℕ) → 16 * n < length xs → length out ≡ length xs → x ≡ masked_block key icb xs n
      → take (min (16 * n) (length xs)) out ≡ masked key icb xs n
      → take (min (16 * (n + 1)) (length xs)) (spliced out (16 * n) x) ≡ masked key icb xs (n + 1)
  unfolding masked
  masked_more n out x h e ex eo =
      let before : min (16 * n) (length xs) ≡ 16 * n = omega arith in
      let size : min (16 * suc n) (length xs) ≡ 16 * n + length x = omega (arith, ap length ex, length_masked_block n) in
      rw add-one (front_spliced out x (16 * n) _ (omega arith) size ∙ ap₂ ◌++◌ (rw before at eo) ex)

  pub length_gctr : length (gctr key icb xs) ≡ length xs
  unfolding gctr
  length_gctr = length_masked ((length xs + 15) / 16) ∙ omega arith

  -- all blocks are there
  pub masked_all : (n : ℕ) (out : List ℕ) → n ≡ (length xs + 15) / 16 → length out ≡ length xs
      → take (min (16 * n) (length xs)) out ≡ masked key icb xs n → out ≡ gctr key icb xs
  unfolding gctr
  masked_all n out e h eo = sym (take_all (min (16 * n) (length xs)) out (omega arith)) ∙ eo ∙ ap (masked key icb xs) e

  gctr_part : (n : ℕ) → n < (length xs + 15) / 16 → part (gctr key icb xs) (16 * n) 16 ≡ masked_block key icb xs n
  unfolding gctr
  gctr_part n h = masked_part ((length xs + 15) / 16) n h (omega arith)

  block_back : (n : ℕ) → n < (length xs + 15) / 16 → masked_block key icb (gctr key icb xs) n ≡ part xs (16 * n) 16
  unfolding masked_block
  block_back n h =
      let stream = aes256 key (bytes_of 16 (counter_at icb n)) in
      ap (λ (l : List ℕ). added l stream) (gctr_part n h)
      ∙ added_back (part xs (16 * n) 16) stream (omega (arith, length_block xs (16 * n), length_aes256 key (bytes_of 16 (counter_at icb n))))

  masked_back : (n : ℕ) → n ≤ (length xs + 15) / 16 → masked key icb (gctr key icb xs) n ≡ take (16 * n) xs
  unfolding masked
  masked_back zero h = refl
  masked_back (suc n) h =
      let e : 16 * n + 16 ≡ 16 * suc n = omega arith in
      ap₂ ◌++◌ (masked_back n (omega arith)) (block_back n h) ∙ sym (take-add (16 * n) 16 xs) ∙ ap (λ (m : ℕ). take m xs) e

  -- GCTR twice
  pub gctr_back : gctr key icb (gctr key icb xs) ≡ xs
  unfolding gctr
  gctr_back =
      let e : (length (gctr key icb xs) + 15) / 16 ≡ (length xs + 15) / 16 = ap (λ (n : ℕ). (n + 15) / 16) length_gctr in
      ap (masked key icb (gctr key icb xs)) e ∙ masked_back ((length xs + 15) / 16) (omega arith) ∙ take_all (16 * ((length xs + 15) / 16)) xs (omega arith)

-- a block masked under the schedule of a key
pub mask_expanded : (key xs keys : List ℕ) (icb n e counter : ℕ) → keys ≡ key_expansion key → counter ≡ counter_at icb n
    → e ≡ 16 * n + min 16 (length xs - 16 * n)
    → added (take (e - 16 * n) (drop (16 * n) xs)) (cipher keys (bytes_of 16 counter)) ≡ masked_block key icb xs n
unfolding masked_block
mask_expanded key xs keys icb n e counter ek ec ee =
    rw (block_part xs (16 * n) e ee, ek, ec, cipher_expanded)

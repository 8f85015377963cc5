-- What is sealed is bytes where key and text are.
-- Assumes nothing.
use mathlib.Core.List.{List, [], ◌∷◌}
use Prim.Native.Nat.{ℕ, zero, suc, ◌+◌, ◌*◌, ◌/◌}
use native.Mathlib.Omega.{arith}
use lib.Bits.{bit_xor, xor_lt}
use lib.ListN.{length}
use Rattle.cells.specs.Runs.{part, Bytes}
use Rattle.cells.specs.Numbers.{bytes_of}
use Rattle.cells.proofs.Numbers.{bytes_bytes_of, bytes_rest, bytes_first, bytes_joined}
use Rattle.cells.proofs.Cuts.{bytes_part}
use Rattle.aes.specs.Cipher.{aes256}
use Rattle.aes.proofs.Bytes.{bytes_aes256}
use Rattle.gcm.specs.Gctr.{inc32, counter_at, added, masked_block, masked, gctr}
use Rattle.gcm.specs.Ghash.{ghash}
use Rattle.gcm.specs.Gcm.{hash_key, pre_counter, hash_input, crypted, tag_of}

bytes_added : (xs ys : List ℕ) → Bytes xs → Bytes ys → Bytes (added xs ys)
unfolding added
bytes_added [] ys h k = λ i. omega arith
bytes_added (x ∷ xs) [] h k = λ i. omega arith
bytes_added (x ∷ xs) (y ∷ ys) h k =
    bytes_first (bit_xor x y) (added xs ys) (xor_lt 8 x y (h 0) (k 0)) (bytes_added xs ys (bytes_rest x xs h) (bytes_rest y ys k))

bytes_masked : (key : List ℕ) (icb : ℕ) (xs : List ℕ) (n : ℕ) → Bytes key → Bytes xs → Bytes (masked key icb xs n)
unfolding masked masked_block
bytes_masked key icb xs zero h k = λ i. omega arith
bytes_masked key icb xs (suc n) h k =
    let block = bytes_of 16 (counter_at icb n) in
    bytes_joined (masked key icb xs n) (masked_block key icb xs n) (bytes_masked key icb xs n h k)
    (bytes_added (part xs (16 * n) 16) (aes256 key block) (bytes_part xs (16 * n) 16 k) (bytes_aes256 key block h))

bytes_gctr : (key : List ℕ) (icb : ℕ) (xs : List ℕ) → Bytes key → Bytes xs → Bytes (gctr key icb xs)
unfolding gctr
bytes_gctr key icb xs h k = bytes_masked key icb xs ((length xs + 15) / 16) h k

pub bytes_crypted : (key iv text : List ℕ) → Bytes key → Bytes text → Bytes (crypted key iv text)
unfolding crypted
bytes_crypted key iv text h k = bytes_gctr key (inc32 (pre_counter iv)) text h k

pub bytes_tag : (key iv aad cipher : List ℕ) → Bytes key → Bytes (tag_of key iv aad cipher)
unfolding tag_of
bytes_tag key iv aad cipher h =
    let hash = ghash (hash_key key) (hash_input aad cipher) in
    bytes_gctr key (pre_counter iv) (bytes_of 16 hash) h (bytes_bytes_of 16 hash)

-- A run as a block with zeros after it, and a block's bytes exclusive or one byte.
-- Assumes nothing.
use mathlib.Core.Path.{◌≡◌, refl, ap}
use mathlib.Core.List.{List, [], ◌∷◌, ◌++◌, append-nil, append_assoc}
use Prim.Native.Nat.{ℕ, zero, suc, ◌+◌, ◌-◌, ◌≤◌}
use native.Mathlib.Omega.{arith}
use lib.Bits.{bit_xor}
use lib.ListN.{length, take, drop, replicate, length-append, length-replicate, drop_of_length-le, replicate-append-replicate}
use lib.Seq.{take_all, take_at}
use Rattle.std.proofs.lemmas.List.{drop-replicate}
use Rattle.cells.specs.Runs.{fronted}
use Rattle.hashes.specs.declared.Hash.{Hash}
use Rattle.hashes.specs.declared.Hash.TheVariants.{Sha256, Sha512}
use Rattle.hashes.specs.Hashes.{digest_size}
use Rattle.sha_2.specs.Hash.{block_size}
use Rattle.hmac.specs.Hmac.{filled, xored}

-- bytes written over the front of zeros, up to size bytes
pub front_filled : (size all : ℕ) (xs : List ℕ) → length xs ≤ size → size ≤ all → take size (fronted xs (replicate all 0)) ≡ filled size xs
unfolding fronted
front_filled size all xs within room =
    let parts : all - length xs ≡ size - length xs + (all - size) = omega arith in
    let long : length (filled size xs) ≡ size = simp (length-append, length-replicate) (omega arith) in
    rw (drop-replicate, parts, ← replicate-append-replicate, ← append_assoc) (take_at (filled size xs) (replicate (all - size) 0) size long)

-- the end of a loop over the bytes
pub xored_all : (x : ℕ) (xs : List ℕ) (i : ℕ) → i ≡ length xs → xored x (take i xs) ++ drop i xs ≡ xored x xs
xored_all x xs i e =
    rw (take_all i xs (omega arith), drop_of_length-le xs {i = i} (omega arith), append-nil)

-- the first bytes of a block
pub front_xored : (x n : ℕ) (xs : List ℕ) → take n (xored x xs) ≡ xored x (take n xs)
unfolding xored
front_xored x zero xs = refl
front_xored x (suc n) [] = refl
front_xored x (suc n) (b ∷ xs) = ap (λ (l : List ℕ). bit_xor b x ∷ l) (front_xored x n xs)

-- a digest is no longer than a block
pub digest_within : (h : Hash) → digest_size h ≤ block_size h
digest_within Sha256 = omega arith
digest_within Sha512 = omega arith

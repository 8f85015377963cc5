-- The eight words of a hash value, written one after the other.
-- Assumes nothing.
use Rattle.std.proofs.Common.{◌≡◌, ℕ, ◌*◌, ◌/◌, List, [], ◌∷◌, ◌++◌, length, take, replicate, refl, ap, ◌∙◌, arith}
use Rattle.cells.specs.Numbers.{bytes_of}
use Rattle.cells.specs.Runs.{spliced, Bytes}
use Rattle.cells.proofs.Numbers.{bytes_bytes_of, bytes_joined}
use Rattle.hashes.specs.declared.Hash.{Hash}
use Rattle.hashes.specs.declared.Hash.TheVariants.{Sha256, Sha512}
use Rattle.hashes.specs.Hashes.{digest_size}
use Rattle.sha_2.specs.Numbers.{Numbers}
use Rattle.sha_2.specs.Word.{width}
use Rattle.sha_2.specs.Constants.{initial}
use Rattle.sha_2.specs.Hash.{block_size, padded, after_blocks, digest, sha2}

-- word i of a value in its place
abbrev put : Hash → ℕ → ℕ → List ℕ → List ℕ
put h i w o = spliced o (width h * i) (bytes_of (width h) w)

side_by_side : (h : Hash) (v : Numbers)
    → take (digest_size h)
    (put h 7 v.h (put h 6 v.g (put h 5 v.f (put h 4 v.e (put h 3 v.d (put h 2 v.c (put h 1 v.b (put h 0 v.a (replicate 64 0)))))))))
    ≡ digest h v
unfolding spliced bytes_of digest
side_by_side Sha256 v = refl
side_by_side Sha512 v = refl

pub laid_out_lem : (h : Hash) (v : Numbers) {o1 o2 o3 o4 o5 o6 o7 o8 : List ℕ}
    → o1 ≡ put h 0 v.a (replicate 64 0)
    → o2 ≡ put h 1 v.b o1
    → o3 ≡ put h 2 v.c o2
    → o4 ≡ put h 3 v.d o3
    → o5 ≡ put h 4 v.e o4
    → o6 ≡ put h 5 v.f o5
    → o7 ≡ put h 6 v.g o6
    → o8 ≡ put h 7 v.h o7
    → take (digest_size h) o8 ≡ digest h v
laid_out_lem h v e1 e2 e3 e4 e5 e6 e7 e8 =
    ap (take (digest_size h))
    (e8
    ∙ ap (put h 7 v.h) (e7
    ∙ ap (put h 6 v.g) (e6
    ∙ ap (put h 5 v.f) (e5 ∙ ap (put h 4 v.e) (e4 ∙ ap (put h 3 v.d) (e3 ∙ ap (put h 2 v.c) (e2 ∙ ap (put h 1 v.b) e1)))))))
    ∙ side_by_side h v

-- how long a digest is
pub length_sha2 : (h : Hash) (m : List ℕ) → length (sha2 h m) ≡ digest_size h
unfolding sha2 digest bytes_of
length_sha2 Sha256 m = refl
length_sha2 Sha512 m = refl

-- and each is a byte
words : ℕ → List ℕ → List ℕ
words n [] = []
words n (w ∷ ws) = bytes_of n w ++ words n ws

bytes_words : (n : ℕ) (ws : List ℕ) → Bytes (words n ws)
unfolding words
bytes_words n [] = λ i. omega arith
bytes_words n (w ∷ ws) = bytes_joined (bytes_of n w) (words n ws) (bytes_bytes_of n w) (bytes_words n ws)

bytes_digest : (h : Hash) (v : Numbers) → Bytes (digest h v)
unfolding digest words bytes_of
bytes_digest Sha256 v = bytes_words 4 (v.a ∷ v.b ∷ v.c ∷ v.d ∷ v.e ∷ v.f ∷ v.g ∷ v.h ∷ [])
bytes_digest Sha512 v = bytes_words 8 (v.a ∷ v.b ∷ v.c ∷ v.d ∷ v.e ∷ v.f ∷ v.g ∷ v.h ∷ [])

pub bytes_sha2 : (h : Hash) (m : List ℕ) → Bytes (sha2 h m)
unfolding sha2
bytes_sha2 h m = bytes_digest h (after_blocks h (initial h) (padded h m) (length (padded h m) / block_size h))

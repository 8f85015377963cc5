-- The padding of FIPS 180-4, 5.1: its zeros are as many as the standard says, and it is laid out in an array of 256 bytes after the block that was begun.
-- Assumes nothing.
use Rattle.std.proofs.Common.{◌≡◌, ℕ, zero, suc, ◌+◌, ◌-◌, ◌*◌, ◌/◌, ◌%◌, ◌^◌, ◌<◌, ◌≤◌, List, ◌∷◌, ◌++◌, length, take, drop, set, replicate, sym, refl, ap, ◌∙◌, append_assoc, arith, length-append, length-set, drop-cons}
use lib.ListN.{length-replicate, replicate-append-replicate}
use lib.Seq.{set_at, take-append-add}
use Rattle.cells.specs.Numbers.{bytes_of}
use Rattle.cells.specs.Runs.{spliced, fronted, part}
use Rattle.cells.proofs.Numbers.{length_bytes_of, bytes_of_append}
use Rattle.cells.proofs.Runs.{front_spliced, length_fronted}
use Rattle.hashes.specs.declared.Hash.{Hash}
use Rattle.hashes.specs.declared.Hash.TheVariants.{Sha256, Sha512}
use Rattle.sha_2.specs.Word.{width}
use Rattle.sha_2.specs.Hash.{block_size, zeros, padding}

-- a message of n bytes, the byte that follows it and the zeros end two words before the end of a block
pub zeros_fit : (h : Hash) (n : ℕ) → (n + 1 + zeros h n + 2 * width h) % block_size h ≡ 0
zeros_fit Sha256 n = omega arith
zeros_fit Sha512 n = omega arith

-- and no fewer zeros do
pub zeros_least : (h : Hash) (n z : ℕ) → (n + 1 + z + 2 * width h) % block_size h ≡ 0 → zeros h n ≤ z
zeros_least Sha256 n z e = omega arith
zeros_least Sha512 n z e = omega arith

part_replicate : (at k n a : ℕ) → at + k ≤ n → part (replicate n a) at k ≡ replicate k a
part_replicate zero zero n a h = refl
part_replicate zero (suc k) zero a h = absurd (omega arith)
part_replicate zero (suc k) (suc n) a h = ap (λ (l : List ℕ). a ∷ l) (part_replicate zero k n a (omega arith))
part_replicate (suc at) k zero a h = absurd (omega arith)
part_replicate (suc at) k (suc n) a h = part_replicate at k n a (omega arith)

-- the length as two words ends with it as eight bytes
abbrev spare : Hash → ℕ
spare Sha256 = 0
spare Sha512 = 8

two_words : (h : Hash) (x : ℕ) → x < 2 ^ 64 → bytes_of (2 * width h) x ≡ replicate (spare h) 0 ++ bytes_of 8 x
unfolding bytes_of
two_words Sha256 x small = refl
two_words Sha512 x small =
    let e : x / 2 ^ (8 * 8) ≡ 0 = omega arith in
    bytes_of_append 8 8 x ∙ ap (λ (y : ℕ). bytes_of 8 y ++ bytes_of 8 x) e

-- an array of zeros, with the bytes xs at its front, 128 after them, and others from an index on
abbrev laid : List ℕ → ℕ → List ℕ → List ℕ
laid xs at last = spliced (set (fronted xs (replicate 256 0)) (length xs) 128) at last

front_laid : (xs last : List ℕ) (z e : ℕ) → length xs + (z + e) + 9 ≤ 256 → length last ≡ 8
    → take (length xs + (z + e) + 9) (laid xs (length xs + (z + e) + 1) last) ≡ xs ++ (128 ∷ (replicate z 0 ++ (replicate e 0 ++ last)))
unfolding fronted
front_laid xs last z e room size =
    let all : List ℕ = replicate 256 0 in
    let long : length (set (fronted xs all) (length xs) 128) ≡ 256 = length-set (fronted xs all) (length xs) 128 ∙ length_fronted xs all (omega arith) in
    let marked : set (fronted xs all) (length xs) 128 ≡ xs ++ (128 ∷ drop (suc (length xs)) all) =
    ap (λ (l : List ℕ). set (xs ++ l) (length xs) 128) (drop-cons all (length xs) 0 (omega arith)) ∙ set_at xs _ (drop (suc (length xs)) all) 128 (length xs) refl
    in
    let at : length xs + (z + e) + 1 ≡ length xs + suc (z + e) = omega arith in
    front_spliced (set (fronted xs all) (length xs) 128) last (length xs + (z + e) + 1) (length xs + (z + e) + 9) (omega arith) (omega arith)
    ∙ rw (marked, at, take-append-add xs (128 ∷ drop (suc (length xs)) all) (suc (z + e)), part_replicate (suc (length xs)) (z + e) 256 0 (omega arith))
    (append_assoc xs (128 ∷ replicate (z + e) 0) last
    ∙ ap (λ (l : List ℕ). xs ++ (128 ∷ (l ++ last))) (sym (replicate-append-replicate z e 0))
    ∙ ap (λ (l : List ℕ). xs ++ (128 ∷ l)) (append_assoc (replicate z 0) (replicate e 0) last))

-- where the padding of a message of n bytes ends, counted from the block that was begun
abbrev pub end : Hash → ℕ → ℕ
end h n = n % block_size h + 1 + zeros h n + block_size h / 8

-- it ends with a block, and there is room
pub record Closes (h : Hash) (n : ℕ) : Type 0 where
  pub begun : n % block_size h + 9 ≤ end h n
  pub room : end h n ≤ 256
  pub blocks : block_size h * (end h n / block_size h) ≡ end h n

pub closes : (h : Hash) (n : ℕ) → Closes h n
closes Sha256 n = search arith
closes Sha512 n = search arith

pub length_padding : (h : Hash) (n : ℕ) → n % block_size h + length (padding h n) ≡ end h n
unfolding padding
length_padding h n =
    let size : length (padding h n) ≡ suc (zeros h n + 2 * width h) =
    ap suc (length-append (replicate (zeros h n) 0) (bytes_of (2 * width h) (8 * n)) ∙ rw (length-replicate, length_bytes_of))
    in
    omega (arith, words h)
  where
    words : (h : Hash) → 2 * width h ≡ block_size h / 8
    words Sha256 = refl
    words Sha512 = refl

-- the bytes of the block that was begun, and the padding after them
pub padding_laid : (h : Hash) (n : ℕ) (xs : List ℕ) → n < 2 ^ 61 → length xs ≡ n % block_size h
    → take (end h n) (laid xs (end h n - 8) (bytes_of 8 (8 * n))) ≡ xs ++ padding h n
unfolding padding
padding_laid h n xs small begun =
    let ends : length xs + (zeros h n + spare h) + 9 ≡ end h n = omega (arith, place h) in
    let starts : length xs + (zeros h n + spare h) + 1 ≡ end h n - 8 = omega arith in
    rw (starts, ends) at (front_laid xs (bytes_of 8 (8 * n)) (zeros h n) (spare h) (omega (arith, (closes h n).room)) (length_bytes_of 8 (8 * n)))
    ∙ ap (λ (l : List ℕ). xs ++ (128 ∷ (replicate (zeros h n) 0 ++ l))) (sym (two_words h (8 * n) (omega arith)))
  where
    place : (h : Hash) → spare h + 8 ≡ block_size h / 8
    place Sha256 = refl
    place Sha512 = refl

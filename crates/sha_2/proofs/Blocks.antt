-- The whole blocks at the front of a run, one after the other.
-- Assumes nothing.
use Rattle.std.proofs.Common.{◌≡◌, ℕ, ◌+◌, ◌-◌, ◌*◌, ◌<◌, ◌≤◌, List, ◌++◌, length, take, drop, sym, ap, ◌∙◌, arith, length-append, length-drop, length-take-le, drop-drop}
use Rattle.std.proofs.Math.Seq.{take-add, take-append_seam, drop-append_seam}
use Rattle.cells.specs.Runs.{part}
use Rattle.hashes.specs.declared.Hash.{Hash}
use Rattle.hashes.specs.declared.Hash.TheVariants.{Sha256, Sha512}
use Rattle.sha_2.specs.Word.{width}
use Rattle.sha_2.specs.Hash.{block_size}

-- what is left of n blocks after i of them
abbrev pub left : Hash → List ℕ → ℕ → ℕ → List ℕ
left h m n i = take (block_size h * (n - i)) (drop (block_size h * i) m)

-- the next one, if there is one
pub record Next (h : Hash) (m : List ℕ) (n i : ℕ) (block rest : List ℕ) : Type 0 where
  pub below : i < n
  pub is : block ≡ part m (block_size h * i) (block_size h)
  pub rests : rest ≡ left h m n (i + 1)

-- before the first
pub all_left : (h : Hash) (m : List ℕ) (n k : ℕ) → k ≡ width h → take (n * (16 * k)) m ≡ left h m n 0
all_left Sha256 m n k e = rw e (ap (λ x. take x m) (omega arith))
all_left Sha512 m n k e = rw e (ap (λ x. take x m) (omega arith))

-- sixteen words
pub block_wide : (h : Hash) (k : ℕ) → k ≡ width h → 16 * k ≡ block_size h
block_wide Sha256 k e = omega arith
block_wide Sha512 k e = omega arith

length_left : (h : Hash) (m : List ℕ) (n i : ℕ) → block_size h * n ≤ length m → i ≤ n → length (left h m n i) ≡ block_size h * (n - i)
length_left h m n i fits within =
    length-take-le _ (drop (block_size h * i) m) (omega (arith, length-drop (block_size h * i) m, room h))
  where
    room : (h : Hash) → block_size h * (n - i) + block_size h * i ≡ block_size h * n
    room Sha256 = omega arith
    room Sha512 = omega arith

-- one of them in two
some : (h : Hash) (k size : ℕ) → block_size h * k ≡ block_size h + size → 0 < k
some Sha256 k size e = omega arith
some Sha512 k size e = omega arith

counted : (h : Hash) (n i : ℕ) → i < n → block_size h * (n - i) ≡ block_size h + block_size h * (n - (i + 1))
counted Sha256 n i below = omega arith
counted Sha512 n i below = omega arith

after : (h : Hash) (i : ℕ) → block_size h * i + block_size h ≡ block_size h * (i + 1)
after Sha256 i = omega arith
after Sha512 i = omega arith

pub next : (h : Hash) (m : List ℕ) (n i : ℕ) (block rest : List ℕ) → block_size h * n ≤ length m → i ≤ n
    → left h m n i ≡ block ++ rest → length block ≡ block_size h → Next h m n i block rest
next h m n i block rest fits within e long =
    let size = block_size h in
    let xs : List ℕ = drop (size * i) m in
    let left_long = length_left h m n i fits within in
    let sum : size * (n - i) ≡ size + length rest = sym left_long ∙ ap length e ∙ length-append block rest ∙ ap (λ k. k + length rest) long in
    let below : i < n = omega (arith, some h (n - i) (length rest) sum) in
    let halves : block ++ rest ≡ take size xs ++ take (size * (n - (i + 1))) (drop size xs) =
    sym e ∙ ap (λ k. take k xs) (counted h n i below) ∙ take-add size (size * (n - (i + 1))) xs
    in
    let front : length (take size xs) ≡ size = length-take-le size xs (omega (arith, counted h n i below, length-drop (size * i) m, fits, room h)) in
    record {
      below = below;
      is = sym (rw long at (take-append_seam block rest)) ∙ ap (take size) halves ∙ rw front at (take-append_seam (take size xs) (take (size * (n - (i + 1))) (drop size xs)));
      rests =
          sym (rw long at (drop-append_seam block rest)) ∙ ap (drop size) halves ∙ rw front at (drop-append_seam (take size xs) (take (size * (n - (i + 1))) (drop size xs)))
          ∙ ap (take (size * (n - (i + 1)))) (drop-drop size (size * i) m ∙ ap (λ k. drop k m) (after h i));
    }
  where
    room : (h : Hash) → block_size h * (n - i) + block_size h * i ≡ block_size h * n
    room Sha256 = omega arith
    room Sha512 = omega arith

-- where less than a block is left, all are done
pub done : (h : Hash) (m : List ℕ) (n i : ℕ) → block_size h * n ≤ length m → i ≤ n → length (left h m n i) < block_size h → i ≡ n
done h m n i fits within short = last h (rw length_left at short)
  where
    last : (h : Hash) → block_size h * (n - i) < block_size h → i ≡ n
    last Sha256 s = omega arith
    last Sha512 s = omega arith

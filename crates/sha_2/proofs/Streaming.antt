-- A state takes in one more part: it stays within the block that was begun, ends it, or comes where none was begun.
-- Assumes nothing.
use Rattle.std.proofs.Common.{◌≡◌, ℕ, zero, suc, ◌+◌, ◌-◌, ◌*◌, ◌/◌, ◌%◌, ◌<◌, ◌≤◌, List, [], ◌++◌, length, take, drop, sym, refl, ap, ◌∙◌, subst, ap₂, append_assoc, add-zero, add-suc, mul-zero, arith, length-append, length-drop, take-append-drop, drop_of_length-le, length-take-le, take_all, drop-drop}
use lib.Seq.{take-append-le, drop-append-le}
use Rattle.cells.specs.Runs.{spliced, part}
use Rattle.cells.proofs.Runs.{front_spliced}
use Rattle.hashes.specs.declared.Hash.{Hash}
use Rattle.hashes.specs.declared.Hash.TheVariants.{Sha256, Sha512}
use Rattle.sha_2.specs.Numbers.{Numbers}
use Rattle.sha_2.specs.declared.State.{State}
use Rattle.sha_2.specs.Constants.{initial}
use Rattle.sha_2.specs.Block.{after_block}
use Rattle.sha_2.specs.Hash.{block_size, after_blocks}
use Rattle.sha_2.specs.InnerTaken.{Taken, TookIn}
use Rattle.sha_2.specs.InnerWords.{Fit}
use Rattle.sha_2.proofs.Fitting.{blocks_fit}

-- what blocks of the two sizes ask of numbers, where n bytes were taken in and p more come: the part stays within the block that was
-- begun, ends it or a later one, or comes where none was
pub record Counts (size n p : ℕ) : Type 0 where
  pub fits : size ≤ 128
  pub whole : size * (n / size) ≤ n
  pub begun : n % size < size
  pub rest : n - size * (n / size) ≡ n % size
  pub blocks : (n + p) / size ≡ n / size + (n % size + p) / size
  pub stays : n % size + p < size → ((n % size + p) / size ≡ 0) × ((n + p) % size ≡ n % size + p)
  pub ends : (k : ℕ) → n % size + p ≡ size * k → ((n % size + p) / size ≡ k) × ((n + p) % size ≡ 0)
  pub starts : n % size ≡ 0 → ((n % size + p) / size ≡ p / size) × ((n + p) % size ≡ p - size * (p / size))

pub counts : (h : Hash) (n p : ℕ) → Counts (block_size h) n p
counts Sha256 n p = search arith
counts Sha512 n p = search arith

pub over : (h : Hash) (n k : ℕ) → block_size h * n + block_size h * k ≡ block_size h * (n + k)
over Sha256 n k = omega arith
over Sha512 n k = omega arith

-- bytes after n whole blocks do not change what those give
pub blocks_before : (h : Hash) (v : Numbers) (m rest : List ℕ) (n : ℕ) → block_size h * n ≤ length m
    → after_blocks h v (m ++ rest) n ≡ after_blocks h v m n
unfolding after_blocks
blocks_before h v m rest zero fits = refl
blocks_before h v m rest (suc n) fits =
    let next = over h n 1 in
    ap₂ (after_block h) (blocks_before h v m rest n (omega arith))
    (ap (take (block_size h)) (drop-append-le (block_size h * n) m rest (omega arith))
    ∙ take-append-le (block_size h) (drop (block_size h * n) m) rest (simp length-drop (omega arith)))

-- blocks may be taken in two runs
pub blocks_split : (h : Hash) (v : Numbers) (m : List ℕ) (n k : ℕ)
    → after_blocks h v m (n + k) ≡ after_blocks h (after_blocks h v m n) (drop (block_size h * n) m) k
unfolding after_blocks
blocks_split h v m n zero = ap (after_blocks h v m) (add-zero n)
blocks_split h v m n (suc k) =
    ap (after_blocks h v m) (add-suc n k)
    ∙ ap₂ (after_block h) (blocks_split h v m n k)
    (ap (λ (x : ℕ). part m x (block_size h)) (sym (over h n k)) ∙ ap (take (block_size h)) (sym (drop-drop (block_size h * k) (block_size h * n) m)))

-- the hash value after a first block depends on that block alone
first_block : (h : Hash) (v : Numbers) (m k : List ℕ) → take (block_size h) m ≡ take (block_size h) k → after_blocks h v m 1 ≡ after_blocks h v k 1
unfolding after_blocks
first_block h v m k same = ap (after_block h v) (rw mul-zero same)

-- what a part that is lent from byte a on, `&l[a..]`, holds
pub rest_of : (l : List ℕ) (a : ℕ) → take (length l - a) (drop a l) ≡ drop a l
rest_of l a = take_all (length l - a) (drop a l) (omega (arith, length-drop a l))

-- a state that has taken in nothing
pub none_taken : (h : Hash) (s : State) → s.hash ≡ h → s.length ≡ 0 → s.value ≡ initial h → Taken h s []
unfolding after_blocks
none_taken Sha256 s is none value = record { is = is; counted = none; hashed = value; kept = refl }
none_taken Sha512 s is none value = record { is = is; counted = none; hashed = value; kept = refl }

-- what is still to be hashed when part comes: the bytes of the block that was begun, and part
abbrev pub pending : State → List ℕ → List ℕ
pending s part = take (s.length % block_size s.hash) s.tail ++ part

-- a state that hashed k blocks of what was pending, and keeps the bytes after them, took in part
pub took_in : (s r : State) (part : List ℕ) (k : ℕ) → k ≡ (s.length % block_size s.hash + length part) / block_size s.hash
    → r.hash ≡ s.hash
    → r.length ≡ s.length + length part
    → (Fit s.hash s.value → r.value ≡ after_blocks s.hash s.value (pending s part) k)
    → take ((s.length + length part) % block_size s.hash) r.tail ≡ drop (block_size s.hash * k) (pending s part)
    → TookIn s part r
took_in s r part k ek eh el ev et =
    record { is = eh; counted = el; appended = λ h m p. subst (λ (x : Hash). Taken x s m → Taken x r (m ++ part)) p.is (appended m) p }
  where
    appended : (m : List ℕ) → Taken s.hash s m → Taken s.hash r (m ++ part)
    appended m p =
        let h = s.hash in
        let q = length m / block_size h in
        let all : List ℕ = m ++ part in
        let counted : s.length ≡ length m = p.counted in
        let size : length all ≡ length m + length part = length-append m part in
        let numbers = counts h (length m) (length part) in
        let rest : drop (block_size h * q) all ≡ pending s part =
        drop-append-le (block_size h * q) m part numbers.whole
        ∙ ap (λ (l : List ℕ). l ++ part) (sym p.kept ∙ ap (λ (x : ℕ). take (x % block_size h) s.tail) (sym counted))
        in
        let more : length all / block_size h ≡ q + k =
        ap (λ (x : ℕ). x / block_size h) size ∙ numbers.blocks
        ∙ ap (λ (x : ℕ). q + x) (sym (ek ∙ ap (λ (x : ℕ). (x % block_size h + length part) / block_size h) counted))
        in
        let left : length all % block_size h ≡ (s.length + length part) % block_size h =
        ap (λ (x : ℕ). x % block_size h) (size ∙ ap (λ (x : ℕ). x + length part) (sym counted))
        in
        let at : block_size h * q + block_size h * k ≡ block_size h * (length all / block_size h) = over h q k ∙ ap (λ (x : ℕ). block_size h * x) (sym more) in
        let fit = subst (Fit h) (sym p.hashed) (blocks_fit h m q) in
        record {
          is = eh;
          counted = omega arith;
          hashed =
              ev fit
              ∙ ap₂ (λ (v : Numbers) (l : List ℕ). after_blocks h v l k) (p.hashed ∙ sym (blocks_before h (initial h) m part q numbers.whole)) (sym rest)
              ∙ sym (blocks_split h (initial h) all q k)
              ∙ ap (after_blocks h (initial h) all) (sym more);
          kept =
              ap (λ (x : ℕ). take x r.tail) left ∙ et ∙ ap (drop (block_size h * k)) (sym rest) ∙ drop-drop (block_size h * k) (block_size h * q) all
              ∙ ap (λ (x : ℕ). drop x all) at;
        }

-- the hash value after whole blocks that l begins with: the one that was begun, and what was pending
pub closed_by : (h : Hash) (s : State) (part m l : List ℕ) (v : Numbers) (k : ℕ) → block_size s.hash * k ≡ s.length % block_size s.hash + length part
    → length s.tail ≡ 128
    → take (block_size s.hash * k) l ≡ pending s part
    → (Fit s.hash s.value → v ≡ after_blocks s.hash s.value l k)
    → Taken h s m
    → v ≡ after_blocks h (initial h) (m ++ part) (length (m ++ part) / block_size h)
closed_by h s part m l v k ek full front ev p =
    let r : State = record { hash = s.hash; value = v; tail = s.tail; length = s.length + length part } in
    let size = block_size s.hash in
    let numbers = counts s.hash s.length (length part) in
    let long : length (pending s part) ≡ size * k =
    length-append (take (s.length % size) s.tail) part ∙ omega (arith, length-take-le (s.length % size) s.tail (omega (arith, numbers.begun, numbers.fits)))
    in
    let same : after_blocks s.hash s.value l k ≡ after_blocks s.hash s.value (pending s part) k =
    ap (λ (x : List ℕ). after_blocks s.hash s.value x k) (sym (take-append-drop (size * k) l) ∙ ap (λ (x : List ℕ). x ++ drop (size * k) l) front)
    ∙ blocks_before s.hash s.value (pending s part) (drop (size * k) l) k (omega arith)
    in
    let ends = numbers.ends k (sym ek) in
    ((took_in s r part k (sym ends.0) refl refl (λ fit. ev fit ∙ same)
    (ap (λ (x : ℕ). take x s.tail) ends.1 ∙ sym (drop_of_length-le (pending s part) {i = size * k} (omega arith)))).appended h m p).hashed

-- one part after the other
pub took_in_turn : (s t r : State) (a b : List ℕ) → TookIn s a t → TookIn t b r → TookIn s (a ++ b) r
took_in_turn s t r a b p q =
    record {
      is = q.is ∙ p.is;
      counted = omega (arith, p.counted, q.counted, length-append a b);
      appended = λ h m taken. rw append_assoc at (q.appended h (m ++ a) (p.appended h m taken));
    }

module _ (s r : State) (part : List ℕ) (full : length s.tail ≡ 128) (eh : r.hash ≡ s.hash) (el : r.length ≡ s.length + length part) where
  -- part ends before the block that was begun does
  pub took_kept : s.length % block_size s.hash + length part < block_size s.hash → r.value ≡ s.value
      → r.tail ≡ spliced s.tail (s.length % block_size s.hash) part
      → TookIn s part r
  unfolding after_blocks
  took_kept within ev et =
      let h = s.hash in
      let numbers = counts h s.length (length part) in
      let stays = numbers.stays within in
      took_in s r part 0 (sym stays.0) eh el (λ fit. ev)
      (rw mul-zero (ap (take ((s.length + length part) % block_size h)) et
      ∙ front_spliced s.tail part (s.length % block_size h) ((s.length + length part) % block_size h) (omega (arith, numbers.begun, numbers.fits)) stays.1))

  -- part ends with that block
  pub took_complete : s.length % block_size s.hash + length part ≡ block_size s.hash
      → r.tail ≡ spliced s.tail (s.length % block_size s.hash) part
      → (Fit s.hash s.value → r.value ≡ after_blocks s.hash s.value r.tail 1)
      → TookIn s part r
  took_complete within et ev =
      let h = s.hash in
      let at = s.length % block_size h in
      let numbers = counts h s.length (length part) in
      let ends = numbers.ends 1 (omega (arith, over h 0 1)) in
      let room : at ≤ 128 = omega (arith, numbers.begun, numbers.fits) in
      let long : length (pending s part) ≡ block_size h = length-append (take at s.tail) part ∙ omega (arith, length-take-le at s.tail (omega arith)) in
      let front : take (block_size h) r.tail ≡ pending s part =
      ap (take (block_size h)) et ∙ front_spliced s.tail part at (block_size h) (omega arith) (sym within)
      in
      took_in s r part 1 (sym ends.0) eh el
      (λ fit. ev fit ∙ first_block h s.value r.tail (pending s part) (front ∙ sym (take_all (block_size h) (pending s part) (omega arith))))
      (ap (λ (x : ℕ). take x r.tail) ends.1 ∙ sym (drop_of_length-le (pending s part) {i = block_size h * 1} (omega (arith, over h 0 1))))

  -- no block was begun
  pub took_whole : s.length % block_size s.hash ≡ 0
      → (Fit s.hash s.value → r.value ≡ after_blocks s.hash s.value part (length part / block_size s.hash))
      → r.tail ≡ spliced s.tail 0 (drop (block_size s.hash * (length part / block_size s.hash)) part)
      → TookIn s part r
  took_whole none ev et =
      let h = s.hash in
      let n = length part / block_size h in
      let starts = (counts h s.length (length part)).starts none in
      let same : pending s part ≡ part = ap (λ (x : ℕ). take x s.tail ++ part) none in
      took_in s r part n (sym starts.0) eh el (λ fit. ev fit ∙ ap (λ (l : List ℕ). after_blocks h s.value l n) (sym same))
      (ap (take ((s.length + length part) % block_size h)) et
      ∙ front_spliced s.tail (drop (block_size h * n) part) 0 ((s.length + length part) % block_size h) (omega arith) (omega (arith, starts.1, length-drop (block_size h * n) part))
      ∙ ap (drop (block_size h * n)) (sym same))

-- Blocks as numbers and as bytes.
-- Assumes nothing.
use Rattle.std.proofs.Common.{◌≡◌, List, [], ◌∷◌, ◌++◌, ℕ, zero, suc, ◌-◌, length, take, drop, get_or, replicate, set, sym, ap, ◌∙◌, refl, arith}
use Rattle.std.specs.Int.{w128, from_be_bytes, to_be_bytes}
use Rattle.std.proofs.Math.Nat.{zero-sub, sub-zero, suc-sub-suc, div-one}
use lib.Seq.{take_all}
use Rattle.cells.specs.Runs.{fronted}
use Rattle.cells.specs.Numbers.{bytes_of, number}
use Rattle.cells.proofs.Runs.{part_listed}
use Rattle.gcm.specs.Gcm.{pre_counter}

-- the number that std reads, and the bytes that it writes
pub number_read : (s : List ℕ) → length s ≡ 16 → from_be_bytes w128 s ≡ number s
unfolding number
number_read s h =
    let bytes = get_or s 0 0 ∷ get_or s 1 0 ∷ get_or s 2 0 ∷ get_or s 3 0 ∷ get_or s 4 0 ∷ get_or s 5 0 ∷ get_or s 6 0 ∷ get_or s 7 0 ∷ get_or s 8 0 ∷ get_or s 9 0 ∷ get_or s 10 0 ∷ get_or s 11 0 ∷ get_or s 12 0 ∷ get_or s 13 0 ∷ get_or s 14 0 ∷ get_or s 15 0 ∷ [] in
    let listed : take 16 s ≡ bytes = part_listed s 0 0 16 (omega arith) in
    let read : from_be_bytes w128 s ≡ number bytes = omega arith in
    read ∙ ap number (sym listed ∙ take_all 16 s (omega arith))

pub bytes_written : (n : ℕ) → to_be_bytes w128 n ≡ bytes_of 16 n
unfolding bytes_of
bytes_written n = simp div-one

drop_zeros : (n m : ℕ) → drop n (replicate {A = ℕ} m 0) ≡ replicate (m - n) 0
drop_zeros zero m = rw sub-zero
drop_zeros (suc n) zero = rw zero-sub
drop_zeros (suc n) (suc m) = rw suc-sub-suc (drop_zeros n m)

-- a part at the front of a zero block
pub fronted_zeros : (xs : List ℕ) (m : ℕ) → fronted xs (replicate m 0) ≡ xs ++ replicate (m - length xs) 0
unfolding fronted
fronted_zeros xs m = ap (λ (l : List ℕ). xs ++ l) (drop_zeros (length xs) m)

-- an IV at the front of a block that ends in a one
pub pre_counter_laid : (iv : List ℕ) → length iv ≡ 12 → number (fronted iv (set (replicate 16 0) 15 1)) ≡ pre_counter iv
unfolding fronted pre_counter
pre_counter_laid iv h = rw h refl

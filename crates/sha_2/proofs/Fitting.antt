-- A hash value is of words of its hash, whatever blocks it was made from.
-- Assumes nothing.
use Rattle.std.proofs.Common.{ℕ, zero, suc, ◌*◌, ◌^◌, ◌<◌, List, arith}
use Rattle.cells.specs.Runs.{part}
use Rattle.hashes.specs.declared.Hash.{Hash}
use Rattle.hashes.specs.declared.Hash.TheVariants.{Sha256, Sha512}
use Rattle.sha_2.specs.Numbers.{Numbers}
use Rattle.sha_2.specs.Word.{bits, ◌⊞⟨◌⟩◌}
use Rattle.sha_2.specs.Constants.{K, initial}
use Rattle.sha_2.specs.Block.{turns, schedule, rounds, sum_of, after_block}
use Rattle.sha_2.specs.Hash.{block_size, after_blocks}
use Rattle.sha_2.specs.InnerWords.{Fit}

sum_fits : (h : Hash) (x y : ℕ) → x ⊞⟨ h ⟩ y < 2 ^ bits h
sum_fits Sha256 x y = omega arith
sum_fits Sha512 x y = omega arith

sums_fit : (h : Hash) (v x : Numbers) → Fit h (sum_of h v x)
unfolding sum_of
sums_fit h v x =
    record {
      a = sum_fits h v.a x.a;
      b = sum_fits h v.b x.b;
      c = sum_fits h v.c x.c;
      d = sum_fits h v.d x.d;
      e = sum_fits h v.e x.e;
      f = sum_fits h v.f x.f;
      g = sum_fits h v.g x.g;
      h = sum_fits h v.h x.h;
    }

initial_fits : (h : Hash) → Fit h (initial h)
unfolding initial
initial_fits Sha256 = search arith
initial_fits Sha512 = search arith

pub blocks_fit : (h : Hash) (m : List ℕ) (n : ℕ) → Fit h (after_blocks h (initial h) m n)
unfolding after_blocks after_block
blocks_fit h m zero = initial_fits h
blocks_fit h m (suc n) =
    let v = after_blocks h (initial h) m n in
    sums_fit h v (rounds h (K h) (schedule h (part m (block_size h * n) (block_size h)) (turns h)) v (turns h))

use Rattle.std.proofs.Common.{◌≡◌, ◌≤◌, length}
use Rattle.std.specs.Slice.Iter.{chunks_exact_rest, chunks_exact_size}
use Rattle.sha_2.specs.Hash.{block_size, after_blocks}
use Rattle.sha_2.specs.Numbers.{numbers}
use Rattle.sha_2.proofs.Blocks.{left}
use Rattle.sha_2.proofs.block.after_blocks.Given as goal

abbrev pub invariant-loop-block : goal.invariant-loop-block
invariant-loop-block g l =
    record {
      within : length l.yielded ≤ l.n;
      size : chunks_exact_size l.block-iterator ≡ block_size g.W.Word.hash;
      rest : chunks_exact_rest l.block-iterator ≡ left g.W.Word.hash l.m l.n (length l.yielded);
      value : numbers g.W.Word.value l.x ≡ after_blocks g.W.Word.hash (numbers g.W.Word.value l.initial.x) l.m (length l.yielded);
    }

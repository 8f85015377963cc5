use Rattle.std.proofs.Common.{◌≡◌, ◌+◌, length}
use Rattle.std.specs.Slice.Iter.{chunks_rest}
use Rattle.vectors.proofs.digests.parts.Given as goal

abbrev pub invariant-loop-part : goal.invariant-loop-part
invariant-loop-part g l =
    record {
      can_next : (goal.iterator-loop-part g).can_next l.part-iterator;
      is_finite : (goal.iterator-loop-part g).is_finite l.part-iterator;
      taken : l.state.length + length (chunks_rest l.part-iterator) ≡ length l.message;
    }

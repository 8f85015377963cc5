-- The invalidation is written and compared.
-- Assumes nothing.
use Rattle.std.proofs.Common.{◌≤◌, sym, ap, ◌∙◌, arith}
use lib.ListN.{replicate}
use lib.Seq.{length-take-le}
use Rattle.cells.specs.Runs.{same}
use Rattle.hashes.specs.declared.Hash.{Hash}
use Rattle.hashes.specs.declared.Hash.TheVariants.{Sha256, Sha512}
use Rattle.armor.proofs.Texts.{front_taken}
use Rattle.reply.specs.Replies.{invalidation, invalidation_size}
use Rattle.reply.proofs.Lengths.{length_invalidation}
use Rattle.scanner.proofs.reading.is_invalidation.Goals as goal

short : (hash : Hash) → invalidation_size hash ≤ 90
short Sha256 = omega arith
short Sha512 = omega arith

pub slice_bounds-own-end : goal.slice_bounds-own-end
slice_bounds-own-end c = omega (arith, c.invalidate-len.ensures.0, length_invalidation c.args.hash c.args.key.now, short c.args.hash, c.invalidate-len.auto)

pub slice_bounds-same-end : goal.slice_bounds-same-end
slice_bounds-same-end c =
    sym (length-take-le _ _ (omega (arith, c.invalidate-len.ensures.0, length_invalidation c.args.hash c.args.key.now, short c.args.hash, c.invalidate-len.auto)))

pub returns : goal.returns
returns c =
    c.same.ensures
    ∙ ap (same c.args.value.now) (front_taken (invalidation c.args.hash c.args.key.now) (replicate 1024 0) c.invalidate-len.result c.invalidate-len.ensures.1
    c.invalidate-len.ensures.0)

-- The array has room for the value.
-- Assumes nothing.
use Rattle.std.proofs.Common.{sym, ap, ◌∙◌, arith, List, ℕ}
use lib.Seq.{length-take-le}
use Rattle.cells.specs.Runs.{same}
use Rattle.signatures.proofs.Told.{laid_within, laid_front}
use Rattle.carrier.proofs.Writing.{signature_room}
use Rattle.carrier.proofs.verify.bears.Goals as goal

pub put_code-end-requires : goal.put_code-end-requires
put_code-end-requires c = omega (arith, signature_room c.args.label.now c.args.code.now (omega arith) c.requires)

pub slice_bounds-text-end : goal.slice_bounds-text-end
slice_bounds-text-end c = laid_within (signature_room c.args.label.now c.args.code.now (omega arith) c.requires) c.put_code-end.ensures

pub slice_bounds-same-end : goal.slice_bounds-same-end
slice_bounds-same-end c =
    sym (length-take-le _ _ (laid_within (signature_room c.args.label.now c.args.code.now (omega arith) c.requires) c.put_code-end.ensures))

pub returns : goal.returns
returns c =
    c.same.ensures
    ∙ ap (λ (run : List ℕ). same run c.args.signature.now)
    (laid_front (signature_room c.args.label.now c.args.code.now (omega arith) c.requires) c.put_code-end.ensures)

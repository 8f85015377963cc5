-- `is_text_of` meets its contract: the encoding stands at the front of the array.
-- Assumes nothing.
use Rattle.std.proofs.Common.{replicate, sym, ap, ◌∙◌, arith, length-take-le}
use Rattle.cells.specs.Runs.{same}
use Rattle.base_64.specs.Encoding.{encoded}
use Rattle.base_64.proofs.Encoded.{length_encoded}
use Rattle.armor.proofs.Texts.{front_taken}
use Rattle.coverage.proofs.is_text_of.Goals as goal

pub slice_bounds-out-end : goal.slice_bounds-out-end
slice_bounds-out-end c = omega (arith, length_encoded c.args.bytes.now, c.encode-len.ensures.0, c.requires, c.encode-len.auto.out)

pub slice_bounds-same-end : goal.slice_bounds-same-end
slice_bounds-same-end c =
    let e = c.encode-len in
    sym (length-take-le e.result e.new.out (omega (arith, length_encoded c.args.bytes.now, e.ensures.0, c.requires, e.auto.out)))

pub returns : goal.returns
returns c =
    let e = c.encode-len in
    c.same.ensures ∙ ap (same c.args.text.now) (front_taken (encoded c.args.bytes.now) (replicate 172 0) e.result e.ensures.1 e.ensures.0)

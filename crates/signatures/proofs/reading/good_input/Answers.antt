-- What the value tells is written again and compared.
-- Assumes nothing.
use Rattle.std.proofs.Common.{sym, arith}
use lib.Seq.{length-take-le}
use Rattle.signatures.proofs.Told.{input_refused, input_judged, input_room, laid_within, laid_front}
use Rattle.signatures.proofs.reading.good_input.Goals as goal

pub returns-then-not-is_key-all_components : goal.returns-then-not-is_key-all_components
returns-then-not-is_key-all_components c =
    input_refused c.requires.1 c.is_key.ensures c.all_components.ensures c.all_between.ensures c.if-not-is_key-all_components.true

pub put_input-end-requires : goal.put_input-end-requires
put_input-end-requires c =
    omega (
      arith,
      input_room c.requires.1 c.is_key.ensures c.all_components.ensures c.all_between.ensures c.if-not-is_key-all_components.false c.requires.0,
    )

pub slice_bounds-anew-end : goal.slice_bounds-anew-end
slice_bounds-anew-end c =
    laid_within
    (input_room c.requires.1 c.is_key.ensures c.all_components.ensures c.all_between.ensures c.if-not-is_key-all_components.false c.requires.0)
    c.put_input-end.ensures

pub slice_bounds-same-end : goal.slice_bounds-same-end
slice_bounds-same-end c =
    sym (length-take-le _ _ (laid_within
    (input_room c.requires.1 c.is_key.ensures c.all_components.ensures c.all_between.ensures c.if-not-is_key-all_components.false c.requires.0)
    c.put_input-end.ensures))

pub returns : goal.returns
returns c =
    input_judged c.requires.1 c.is_key.ensures c.all_components.ensures c.all_between.ensures c.if-not-is_key-all_components.false c.same.ensures
    (laid_front
    (input_room c.requires.1 c.is_key.ensures c.all_components.ensures c.all_between.ensures c.if-not-is_key-all_components.false c.requires.0)
    c.put_input-end.ensures)

-- What is read is written again and compared.
-- Assumes nothing.
use Rattle.std.proofs.Common.{sym, arith}
use lib.Seq.{length-take-le}
use Rattle.signatures.proofs.Told.{code_told, signature_room, signature_judged, laid_within, laid_front}
use Rattle.signatures.proofs.reading.good_signature.Goals as goal

pub put_signature-end-requires : goal.put_signature-end-requires
put_signature-end-requires c =
    let read = code_told _ c.label_of-label.ensures c.past.ensures c.front-code.ensures in
    omega (arith, signature_room _ c.label_of-label.ensures read c.requires)

pub slice_bounds-anew-end : goal.slice_bounds-anew-end
slice_bounds-anew-end c =
    let read = code_told _ c.label_of-label.ensures c.past.ensures c.front-code.ensures in
    laid_within (signature_room _ c.label_of-label.ensures read c.requires) c.put_signature-end.ensures

pub slice_bounds-same-end : goal.slice_bounds-same-end
slice_bounds-same-end c =
    let read = code_told _ c.label_of-label.ensures c.past.ensures c.front-code.ensures in
    sym (length-take-le _ _ (laid_within (signature_room _ c.label_of-label.ensures read c.requires) c.put_signature-end.ensures))

pub returns : goal.returns
returns c =
    let read = code_told _ c.label_of-label.ensures c.past.ensures c.front-code.ensures in
    signature_judged _ c.label_of-label.ensures read c.is_key.ensures c.of_digest.ensures c.same.ensures
    (laid_front (signature_room _ c.label_of-label.ensures read c.requires) c.put_signature-end.ensures)

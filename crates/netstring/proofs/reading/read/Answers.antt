-- The length, as many bytes, and the comma.
use Rattle.std.proofs.Common.{[], ◌∷◌, None, Some}
use Rattle.std.proofs.lemmas.Bool.Decides.{Decides-eqb}
use Rattle.std.proofs.lemmas.Slice.Eq.{strip_prefix_is}
use Rattle.netstring.proofs.Parts.{no_length, too_short, no_comma_lem, part_found}
use Rattle.netstring.proofs.reading.read.Goals as goal

pub returns-in_err-size : goal.returns-in_err-size
returns-in_err-size c = rw c.from_residual.ensures (no_length c.args.run.now c.in_err-size.ensures)

pub returns-in_err-part : goal.returns-in_err-part
returns-in_err-part c =
    rw c.from_residual-in_err-part.ensures
    (too_short c.args.run.now c.in_ok-size.size c.in_ok-size.contents.now c.in_ok-size.ensures c.in_err-part.ensures.cases)

pub returns-in_err-strip_prefix : goal.returns-in_err-strip_prefix
returns-in_err-strip_prefix c =
    rw c.from_residual-in_err-strip_prefix.ensures
    (no_comma_lem c.args.run.now c.in_ok-size.size c.in_ok-size.contents.now c.in_ok-size.ensures c.in_ok-part.part.now c.in_ok-part.rest.now c.in_ok-part.ensures.cases
    (strip_prefix_is Decides-eqb c.in_ok-part.rest.now (44 ∷ []) None c.in_err-strip_prefix.ensures.cases))

pub returns : goal.returns
returns c =
    part_found c.args.run.now c.in_ok-size.size c.in_ok-size.contents.now c.in_ok-size.ensures c.in_ok-part.part.now c.in_ok-part.rest.now c.in_ok-part.ensures.cases
    c.in_ok-strip_prefix.field-0.now
    (strip_prefix_is Decides-eqb c.in_ok-part.rest.now (44 ∷ []) (Some c.in_ok-strip_prefix.field-0) c.in_ok-strip_prefix.ensures.cases)

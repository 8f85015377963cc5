-- Each byte is laid, escaped where it has to be.
-- Assumes nothing.
use Rattle.std.proofs.Common.{refl, [], ◌∷◌, get_or}
use Rattle.structured.specs.Texts.{escaped}
use Rattle.structured.proofs.Texts.{escaped_from, escaped_past}
use Rattle.structured.proofs.Laying.{laying_none, laying_next, laying_more, laying_all}
use Rattle.structured.proofs.put_escaped.Goals as goal

pub loop-b-init : goal.loop-b-init
loop-b-init c = laying_none _ _ c.requires refl

pub put_byte-end-requires : goal.put_byte-end-requires
put_byte-end-requires c =
    let text = c.args.text.now in
    laying_next c.loop-b.invariant (escaped (get_or text c.loop-b.b-index 0 ∷ [])) _ (escaped_from text c.loop-b.b-index c.loop-b-test.true)

pub loop-b-preserved : goal.loop-b-preserved
loop-b-preserved c = laying_more c.loop-b.invariant (escaped_from _ c.loop-b.b-index c.loop-b-test.true) c.put_byte-end.ensures

pub returns : goal.returns
returns c = laying_all c.loop-b.invariant (escaped_past _ c.loop-b.b-index c.loop-b-test.false)

-- Four pieces are laid one after the other.
-- Assumes nothing.
use Rattle.std.proofs.Common.{refl, arith}
use Rattle.structured.proofs.Laying.{laying_none, laying_more, laying_all}
use Rattle.signatures.specs.Fields.{signature_text}
use Rattle.signatures.proofs.Pieces.{signature_size}
use Rattle.signatures.proofs.put_signature.Goals as goal

pub put_at-end-requires : goal.put_at-end-requires
put_at-end-requires c = omega (arith, signature_size c.args.label.now c.args.code.now)

pub put_at-end-requires-2 : goal.put_at-end-requires-2
put_at-end-requires-2 c = omega (arith, signature_size c.args.label.now c.args.code.now)

pub put_at-end-requires-3 : goal.put_at-end-requires-3
put_at-end-requires-3 c = omega (arith, signature_size c.args.label.now c.args.code.now)

pub put_at-requires : goal.put_at-requires
put_at-requires c = omega (arith, signature_size c.args.label.now c.args.code.now)

pub returns : goal.returns
unfolding signature_text
returns c =
    laying_all (laying_more (laying_more (laying_more (laying_more (laying_none _ _ c.requires refl) refl c.put_at-end.ensures) refl c.put_at-end-2.ensures) refl
    c.put_at-end-3.ensures) refl c.put_at.ensures) refl

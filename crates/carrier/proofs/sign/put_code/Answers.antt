-- The base64 of the code fills its array.
-- Assumes nothing.
use Rattle.std.proofs.Common.{refl, arith}
use lib.Seq.{length-take-le}
use Rattle.signatures.specs.Fields.{signature_value}
use Rattle.carrier.proofs.Writing.{digest_text}
use Rattle.carrier.proofs.sign.put_code.Goals as goal

pub put_signature-requires : goal.put_signature-requires
unfolding signature_value
put_signature-requires c =
    rw (digest_text _ _ (length-take-le 32 c.args.code.now (omega arith)) refl c.encode.ensures.1) c.requires

pub returns : goal.returns
unfolding signature_value
returns c =
    rw (← (digest_text _ _ (length-take-le 32 c.args.code.now (omega arith)) refl c.encode.ensures.1)) c.put_signature.ensures

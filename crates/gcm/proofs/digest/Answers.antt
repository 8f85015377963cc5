-- The block of the lengths comes last.
-- Assumes nothing.
use Rattle.std.proofs.Common.{◌∙◌}
use Rattle.gcm.proofs.Hashing.{digested}
use Rattle.gcm.proofs.digest.Goals as goal

pub returns : goal.returns
returns c = c.multiply.ensures ∙ digested c.args.h c.args.cipher.now c.requires c.hash.ensures

-- A key is a first byte and those after it.
-- Assumes nothing.
use Rattle.std.proofs.Common.{sym}
use Rattle.structured.specs.Texts.{is_key, key_byte}
use Rattle.structured.proofs.Bytes.{key_none}
use Rattle.structured.proofs.is_key.Goals as goal

pub returns-in-Some : goal.returns-in-Some
unfolding is_key
returns-in-Some c = rw (c.in-Some.ensures.cases.0, c.key_start.ensures, c.all.ensures key_byte (λ b r h e. e))

pub returns-in-None : goal.returns-in-None
returns-in-None c = sym (key_none c.args.run.now c.in-None.ensures.cases)

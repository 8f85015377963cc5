-- The code's test of a key's byte is computed for every byte.
-- Assumes nothing.
use Rattle.std.proofs.Common.{arith}
use Rattle.structured.proofs.Bytes.{tested_key}
use Rattle.structured.proofs.key_byte.Goals as goal

pub returns : goal.returns
returns c = rw c.key_start.ensures (tested_key c.args.b (omega arith))

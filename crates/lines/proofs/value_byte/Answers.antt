use Rattle.std.proofs.Common.{arith}
use Rattle.lines.proofs.Bytes.{tested_value}
use Rattle.lines.proofs.value_byte.Goals as goal

pub returns : goal.returns
returns c = tested_value c.args.b (omega arith)

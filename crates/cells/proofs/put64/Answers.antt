-- The bytes that std makes of a number are its bytes, highest first.
use Rattle.std.proofs.Common.{◌∙◌, ap}
use native.Mathlib.Nat.{div-one}
use Rattle.cells.specs.Runs.{spliced}
use Rattle.cells.specs.Numbers.{bytes_of}
use Rattle.cells.proofs.put64.Goals as goal

pub returns : goal.returns
unfolding bytes_of
returns c = c.put_at.ensures.is ∙ ap (spliced c.args.out.now c.args.at) (simp div-one c.to_be_bytes.ensures)

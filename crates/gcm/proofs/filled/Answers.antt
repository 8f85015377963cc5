-- Assumes nothing.
use Rattle.std.proofs.Common.{ap, ◌∙◌}
use Rattle.cells.specs.Numbers.{number}
use Rattle.gcm.proofs.Blocks.{number_read, fronted_zeros}
use Rattle.gcm.proofs.filled.Goals as goal

pub returns : goal.returns
returns c =
    c.from_be_bytes.ensures ∙ number_read c.put_front.new.out c.put_front.auto.out ∙ ap number (c.put_front.ensures ∙ fronted_zeros c.args.part.now 16)

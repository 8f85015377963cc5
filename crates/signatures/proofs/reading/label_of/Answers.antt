-- The label ends before the first =.
-- Assumes nothing.
use Rattle.signatures.proofs.Told.{label_told}
use Rattle.signatures.proofs.reading.label_of.Goals as goal

pub returns : goal.returns
returns c = label_told c.args.value.now c.end_before.ensures

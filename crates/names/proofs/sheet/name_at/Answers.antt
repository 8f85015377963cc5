use Rattle.names.proofs.Starts.{name_cut}
use Rattle.names.proofs.sheet.name_at.Goals as goal

pub returns : goal.returns
returns c = name_cut _ _ _ c.name_end.ensures

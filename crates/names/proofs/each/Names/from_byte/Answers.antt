use Rattle.names.proofs.Walk.{left_from}
use Rattle.names.proofs.each.Names.from_byte.Goals as goal

pub returns : goal.returns
returns c = left_from _ _ _ c.get.ensures.lookup.0

-- What the commas part is the list of the 55 names, computed once over the whole run.
use Rattle.std.proofs.Common.{refl}
use Rattle.names.specs.Names.{header_names}
use Rattle.names.specs.Extra.{names_in}
use Rattle.cells.specs.Text.{codes}
use Rattle.names.proofs.mask.known.Goals as goal

pub invariant_of-result : goal.invariant_of-result
unfolding names_in header_names codes
invariant_of-result c = record { known = refl }

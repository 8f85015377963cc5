-- What the commas part is the list of the twelve names, computed once over the whole run.
use Rattle.std.proofs.Common.{refl}
use Rattle.names.specs.Extra.{names_in}
use Rattle.names.specs.Lists.{list_names}
use Rattle.cells.specs.Text.{codes}
use Rattle.names.proofs.sheet.list_names.Goals as goal

pub returns : goal.returns
unfolding names_in list_names codes
returns c = refl

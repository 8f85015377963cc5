use Rattle.names.specs.Lists.{is_list}
use Rattle.names.proofs.Walk.{names_start}
use Rattle.names.proofs.sheet.Sheet.single.Goals as goal

pub returns : goal.returns
unfolding is_list
returns c = simp (c.has_name.ensures, names_start, c.list_names.ensures, c.name_from.ensures)

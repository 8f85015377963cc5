use Rattle.cells.specs.Text.{codes}
use Rattle.names.specs.Names.{armor_name}
use Rattle.names.specs.Extra.{allowed}
use Rattle.names.proofs.Walk.{known_extra}
use Rattle.names.proofs.extra.is_allowed.Goals as goal

pub returns : goal.returns
unfolding allowed armor_name codes
returns c = simp (c.is_token.ensures, c.have.ensures, c.of.ensures, known_extra _ c.args.known.now.known, c.same_name.ensures)

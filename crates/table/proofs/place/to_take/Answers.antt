-- A free place is taken, and else the first that has lapsed.
use Rattle.std.proofs.Common.{rules}
use Rattle.std.proofs.lemmas.Option.{MatchOption-at_none, MatchOption-at_some}
use Rattle.table.specs.Table.{taken}
use Rattle.table.proofs.Scan.{placed_or_else}
use Rattle.table.proofs.place.to_take.Goals as goal

pub returns : goal.returns
unfolding taken
returns c =
    placed_or_else c.first_free.result c.or_else.result c.first_free.ensures
    (λ none. let post = MatchOption-at_none _ _ none c.or_else.ensures in search rules)
    (λ place there. MatchOption-at_some _ _ place there c.or_else.ensures)

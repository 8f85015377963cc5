-- Answers for `one::found`.
-- Assumes nothing.
use Rattle.std.proofs.Common.{rules}
use Rattle.table.specs.Record.{Fits}
use Rattle.gate.proofs.Judging.{one_stands}
use Rattle.gate.proofs.one.found.Goals as goal

pub returns : goal.returns
returns c = let fits : Fits c.args.«record» = search rules in one_stands c.args.«record» fits _ _ _ c.is_of.ensures c.then_some.ensures

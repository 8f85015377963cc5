use Rattle.std.proofs.Common.{rules, drop, ap, ◌∙◌}
use Rattle.std.specs.Prelude.{is_some}
use Rattle.table.specs.Table.{records, holds}
use Rattle.table.proofs.Fitting.{scan_some}
use Rattle.table.proofs.rule.stands_nowhere.Goals as goal

pub returns : goal.returns
returns c =
    let a = c.args in
    rw (← (ap is_some c.find_from.ensures.is ∙ scan_some (holds a.iv.now) a.start (drop a.start (records a.table.now)))) (search rules)

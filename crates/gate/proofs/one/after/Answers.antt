-- Answers for `one::after`: in a table of one record the only place is the first.
-- Assumes nothing.
use Rattle.std.proofs.Common.{rules, ◌≡◌, false, sym, ap, ◌∙◌, not}
use Rattle.table.specs.Record.{Fits}
use Rattle.stages.specs.Checks.{nowhere}
use Rattle.gate.proofs.Judging.{is_there, one_goes_on, one_freed}
use Rattle.gate.proofs.one.after.Goals as goal

pub returns-in-Ok : goal.returns-in-Ok
returns-in-Ok c =
    let fits : Fits c.args.«record» = search rules in
    let next : Fits c.unwrap_or.result = search rules in
    let there : nowhere c.args.decision.now.place ≡ false = is_there _ ∙ ap not c.if-is_none.ensures in
    one_goes_on c.args.decision.now c.args.«record» fits c.requires there c.in-Ok.next _ c.unwrap_or.ensures next c.in-Ok.is

pub returns-in-Err : goal.returns-in-Err
returns-in-Err c =
    let fits : Fits c.args.«record» = search rules in
    let there : nowhere c.args.decision.now.place ≡ false = is_there _ ∙ ap not c.if-is_none.ensures in
    rw c.freed.ensures (one_freed c.args.decision.now c.args.«record» fits c.requires there c.in-Err.refusal (sym c.if-invalidates.ensures) c.in-Err.is)

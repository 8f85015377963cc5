use Rattle.std.proofs.Common.{sym, ◌∙◌}
use borrow.Author.Tests.{eqb-true, eqb-false}
use Rattle.names.proofs.Walk.{extra_none, extra_some}
use Rattle.names.proofs.each.Names.of.Goals as goal
use Rattle.names.proofs.each.Names.of.Goals.{then-is_empty, else-is_empty}

pub returns : goal.returns
returns c =
    elim c.if-is_empty.branch [
      | then-is_empty w ↦ rw w.result-is (sym (extra_none c.args.run.now (eqb-true _ 0 (sym c.is_empty.ensures ∙ w.if-is_empty.true))))
      | else-is_empty w ↦ rw w.result-is (sym (extra_some c.args.run.now (eqb-false _ 0 (sym c.is_empty.ensures ∙ w.if-is_empty.false))))
    ]

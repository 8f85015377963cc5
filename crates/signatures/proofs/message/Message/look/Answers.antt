-- A name more is looked at, and at the end none is left.
-- Assumes nothing.
use Rattle.std.proofs.Common.{sym, ◌∙◌}
use borrow.Author.Tests.{eqb-true}
use Rattle.names.proofs.Walk.{extra_none}
use Rattle.signatures.proofs.Values.{looking_start, looking_some, looking_none, looking_end}
use Rattle.signatures.proofs.message.Message.look.Goals as goal
use Rattle.signatures.proofs.message.Message.look.Goals.{in-Some-put_value, in-None}

pub returns-then-is_empty : goal.returns-then-is_empty
returns-then-is_empty c = looking_end looking_start (extra_none c.args.names.now (eqb-true _ 0 (sym c.is_empty.ensures ∙ c.if-is_empty.true)))

pub loop-name-preserved : goal.loop-name-preserved
loop-name-preserved c = elim c.match-put_value.branch [
  | in-Some-put_value w ↦ rw (w.printable-is, w.missing-is)
      (looking_some c.loop-name.invariant c.in-Some.ensures.steps w.in-Some-put_value.ensures w.all_between-printable.ensures c.have-twice.ensures)
  | in-None w ↦ rw (w.printable-is, w.missing-is)
      (looking_none c.loop-name.invariant c.in-Some.ensures.steps w.in-None.ensures c.have-twice.ensures)
]

pub returns : goal.returns
returns c = looking_end c.loop-name.invariant c.in_default.ensures.steps.0

-- The values by the notes that are left.
use Rattle.lines.specs.InnerNotes.{values_by}
use Rattle.signed.proofs.Going.{Going}
use Rattle.signed.proofs.values.Given as goal

abbrev pub invariant-loop-head : goal.invariant-loop-head
invariant-loop-head l =
    Going l.lines.aside.now l.lines.head.now l.head-iterator.a.rest.now l.head-iterator.b.rest.now l.state l.initial.state
    (values_by l.lines.aside.now l.lines.head.now l.in_head l.in_aside)

-- Answers for `setup::room`.
-- Assumes nothing.
use Rattle.std.proofs.Common.{sym, ap, subst, ◌∙◌}
use Rattle.gate.proofs.Judging.{is_there}
use Rattle.gate.specs.Setup.{room_part}
use Rattle.gate.proofs.Starting.{room_by, unplaced}
use Rattle.gate.proofs.setup.room.Goals as goal

pub returns-then-is_some : goal.returns-then-is_some
unfolding room_part
returns-then-is_some c s v t = simp (v, ← c.find.ensures.is, is_there, ← c.is_some.ensures, c.if-is_some.true)

pub returns : goal.returns
returns c s v t =
    let none = sym c.find.ensures.is ∙ unplaced _ (sym c.is_some.ensures ∙ c.if-is_some.false) in
    rw (← v, ← t) (room_by s _ (rw v none) c.to_take.result (rw t c.to_take.ensures) c.ok_or.result c.ok_or.ensures.value)

-- A derived component's value is what is lent, and a field's that of its lines.
-- Assumes nothing.
use Rattle.std.proofs.Common.{refl, ap, arith}
use Rattle.cells.specs.Text.{codes}
use Rattle.lines.specs.Values.{joined}
use Rattle.lines.proofs.Joined.{joined_one, own_short}
use Rattle.signatures.specs.Components.{values_of}
use Rattle.signatures.proofs.Values.{value_laid, found_some}
use Rattle.signatures.proofs.message.Message.put_value.Goals as goal

pub put_at-requires : goal.put_at-requires
put_at-requires c = omega (arith, c.args.self.now.short)

pub returns-then-same : goal.returns-then-same
unfolding values_of codes
returns-then-same c =
    simp (← c.same.ensures, c.if-same.true) (value_laid refl (joined_one _) (omega (arith, c.args.self.now.short)) c.put_at.ensures)

pub put_at-requires-then-same-2 : goal.put_at-requires-then-same-2
put_at-requires-then-same-2 c = omega (arith, c.args.self.now.short)

pub returns-then-same-2 : goal.returns-then-same-2
unfolding values_of codes
returns-then-same-2 c =
    simp (← c.same.ensures, c.if-same.false, ← c.same-2.ensures, c.if-same-2.true)
    (value_laid refl (joined_one _) (omega (arith, c.args.self.now.short)) c.put_at-then-same-2.ensures)

pub put_at-requires-then-same-3 : goal.put_at-requires-then-same-3
put_at-requires-then-same-3 c = omega (arith, c.args.self.now.short)

pub returns-then-same-3 : goal.returns-then-same-3
unfolding values_of codes
returns-then-same-3 c =
    simp (← c.same.ensures, c.if-same.false, ← c.same-2.ensures, c.if-same-2.false, ← c.same-3.ensures, c.if-same-3.true)
    (value_laid refl (joined_one _) (omega (arith, c.args.self.now.short)) c.put_at-then-same-3.ensures)

pub returns-in_err-place : goal.returns-in_err-place
unfolding values_of codes
returns-in_err-place c =
    rw c.from_residual.ensures
    (simp (← c.same.ensures, c.if-same.false, ← c.same-2.ensures, c.if-same-2.false, ← c.same-3.ensures, c.if-same-3.false) c.in_err-place.ensures)

pub put_joined-requires : goal.put_joined-requires
put_joined-requires c =
    let found = c.in_ok-place.ensures in
    (found.stands, omega (arith, own_short _ _ found.stands, c.args.self.now.short))

pub returns : goal.returns
unfolding values_of codes
returns c =
    let found = c.in_ok-place.ensures in
    simp (← c.same.ensures, c.if-same.false, ← c.same-2.ensures, c.if-same-2.false, ← c.same-3.ensures, c.if-same-3.false)
    (value_laid (found_some found) (ap joined found.are) (omega (arith, own_short _ _ found.stands, c.args.self.now.short)) c.put_joined.ensures)

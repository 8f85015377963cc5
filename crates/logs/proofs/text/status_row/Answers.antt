-- The row's name is the status in decimal, of at most three digits.
-- Assumes nothing.
use Rattle.std.proofs.Common.{◌≡◌, length, eq-eqb, ne_eqb, ap, ◌∙◌, arith}
use Rattle.cells.specs.Decimal.{decimal}
use Rattle.cells.proofs.Digits.{decimal_length}
use Rattle.cells.proofs.Laid.{laid_none}
use Rattle.logs.specs.Printed.{status_row}
use Rattle.logs.proofs.text.status_row.Goals as goal

pub returns-then-n-eq0 : goal.returns-then-n-eq0
unfolding status_row
returns-then-n-eq0 c =
    let a = c.args in
    (omega arith, rw (eq-eqb a.n 0 c.if-n-eq0.true) (laid_none a.out.now a.at))

pub row-requires : goal.row-requires
row-requires c =
    let shown : c.as_slice.result.now ≡ decimal c.args.s = c.as_slice.ensures ∙ c.digits.ensures in
    omega (arith, ap length shown, decimal_length 2 c.args.s (omega arith))

pub returns : goal.returns
unfolding status_row
returns c =
    let a = c.args in
    let shown : c.as_slice.result.now ≡ decimal a.s = c.as_slice.ensures ∙ c.digits.ensures in
    let laid = rw shown at c.row.ensures in
    (omega (arith, laid.0, decimal_length 2 a.s (omega arith)), rw (ne_eqb a.n 0 c.if-n-eq0.false) laid.1)

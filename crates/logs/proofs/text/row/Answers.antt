-- Four texts side by side, of which the number has at most 20 digits.
-- Assumes nothing.
use Rattle.std.proofs.Common.{◌≡◌, ◌+◌, ◌≤◌, length, ◌∙◌, arith}
use Rattle.cells.specs.Decimal.{decimal}
use Rattle.cells.proofs.Digits.{decimal_length}
use Rattle.logs.proofs.Printing.{laid_row}
use Rattle.logs.proofs.text.row.Goals as goal

pub returns : goal.returns
returns c =
    let a = c.args in
    let first = c.put_at-after_name.ensures in
    let second = c.put_at-number.ensures in
    let shown : c.as_slice.result.now ≡ decimal a.n = c.as_slice.ensures ∙ c.digits.ensures in
    let third = rw shown at c.put_at-end.ensures in
    let fourth = c.put_at.ensures in
    let digits = decimal_length 19 a.n (omega (arith, c.ranges.n)) in
    let short : c.put_at.result ≤ a.at + length a.name.now + 22 = omega (arith, digits, first.ends, second.ends, third.ends, fourth.ends) in
    (short, laid_row a.name.now a.n first second third fourth (omega (arith, c.requires)))

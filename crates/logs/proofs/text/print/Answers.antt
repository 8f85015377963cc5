-- Header and rows are laid side by side.
-- Assumes nothing.
use Rattle.std.proofs.Common.{◌≡◌, sym, ◌∙◌, arith}
use Rattle.cells.specs.Text.{codes}
use Rattle.cells.proofs.Laid.{laid_none}
use Rattle.logs.specs.Printed.{rows}
use Rattle.logs.proofs.Printing.{sum_is, laid_rows, laid_printed}
use Rattle.logs.proofs.text.print.Goals as goal

pub loop-s-init : goal.loop-s-init
unfolding rows
loop-s-init c = (omega arith, laid_none c.put_at-at.new.out c.put_at-at.result)

pub loop-s-preserved : goal.loop-s-preserved
loop-s-preserved c =
    let loop = c.loop-s in
    let row = c.status_row-at.ensures in (
      omega arith,
      laid_rows c.args.counts.now loop.s loop.auto.s loop.invariant.1 row.1 (omega (arith, row.0, loop.invariant, c.put_at-at.auto, c.told-out)),
    )

pub total-requires : goal.total-requires
total-requires c = omega (arith, sum_is c.args.counts.now)

pub returns : goal.returns
unfolding codes
returns c =
    let counts = c.args.counts.now in
    let total = c.row.ensures in
    let unread = c.row-after_unread.ensures in
    let loop = c.loop-s in
    let last : loop.s ≡ 600 = omega arith in
    laid_printed counts c.put_at-at.ensures (rw last at loop.invariant.1) unread.1 (rw (c.total.ensures ∙ sym (sum_is counts)) at total.1)
    (omega (arith, loop.invariant, unread.0, total.0, c.told-out))

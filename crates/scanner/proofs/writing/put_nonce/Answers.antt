-- n stands where nonces are ordered.
-- Assumes nothing.
use Rattle.std.proofs.Common.{◌%◌, arith}
use borrow.Author.Tests.{eq-eqb, ne_eqb}
use Rattle.cells.specs.Text.{codes}
use Rattle.cells.proofs.Laid.{laid_none}
use Rattle.armor.specs.Value.{following}
use Rattle.scanner.proofs.writing.put_nonce.Goals as goal

pub returns-then-mask-eq1 : goal.returns-then-mask-eq1
unfolding codes
returns-then-mask-eq1 c = (omega (arith, c.put_number.ensures.0), rw (eq-eqb (c.args.mask % 2) 1 c.if-mask-eq1.true) c.put_number.ensures.1)

pub returns : goal.returns
unfolding following
returns c = (omega arith, rw (ne_eqb (c.args.mask % 2) 1 c.if-mask-eq1.false) (laid_none c.args.out.now c.args.at))

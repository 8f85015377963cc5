-- `read` meets its contract.
-- Assumes nothing.
use Rattle.std.proofs.Common.{sym, ◌∙◌}
use Rattle.reply.specs.LaidOut.{laid_out}
use Rattle.reply.proofs.reading.read.Goals as goal

pub returns-in_err-reply : goal.returns-in_err-reply
unfolding laid_out
returns-in_err-reply c = rw c.from_residual.ensures (simp c.in_err-reply.ensures)

pub returns-then-not-is_written : goal.returns-then-not-is_written
unfolding laid_out
returns-then-not-is_written c = simp (c.in_ok-reply.ensures.0) (sym c.is_written.ensures ∙ c.if-not-is_written.true)

pub returns : goal.returns
unfolding laid_out
returns c = (simp (c.in_ok-reply.ensures.0) (sym c.is_written.ensures ∙ c.if-not-is_written.false), c.in_ok-reply.ensures.1)

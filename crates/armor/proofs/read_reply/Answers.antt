-- `read_reply` meets its contract.
-- Assumes nothing.
use Rattle.std.proofs.Common.{sym, ◌∙◌}
use Rattle.armor.proofs.Replies.{reply_breaks, reply_ready}
use Rattle.armor.proofs.read_reply.Goals as goal

pub returns-in_err-seen : goal.returns-in_err-seen
returns-in_err-seen c = rw c.from_residual.ensures (reply_breaks c.args.value.now c.in_err-seen.ensures)

pub reply_of-requires : goal.reply_of-requires
reply_of-requires c = reply_ready _ c.in_ok-seen.ensures.1 (sym c.reply_good.ensures ∙ c.if-not-reply_good.false)

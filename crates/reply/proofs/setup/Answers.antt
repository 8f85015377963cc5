-- `setup` meets its contract.
-- Assumes nothing.
use Rattle.std.proofs.Common.{◌∙◌, zero-add, arith}
use Rattle.cells.specs.InnerRun.{run_of}
use Rattle.cells.proofs.Runs.{spliced_front}
use Rattle.hashes.specs.Hashes.{named}
use Rattle.reply.proofs.Laying.{laid_setup}
use Rattle.reply.proofs.setup.Goals as goal

pub returns : goal.returns
returns c =
    let a = c.args.reply.now in
    let token = c.put_token-at in
    let orders = c.put_orders in
    let extra = c.as_slice.ensures in
    let laid =
    laid_setup (run_of a.s) a.iv a.tag a.key (named a.h) a.ah (run_of a.eah) token.ensures.1 (rw (extra, c.named.ensures) at orders.ensures.1)
    (omega (arith, c.requires, token.ensures.0, orders.ensures.0)) in
    (laid.ends ∙ zero-add _, laid.is ∙ spliced_front c.args.out.now _, omega (arith, token.ensures.0, orders.ensures.0))

-- `is_written` meets its contract: the reply that is written anew stands at the front of the array.
-- Assumes nothing.
use Rattle.std.proofs.Common.{replicate, sym, ap, ◌∙◌, arith, length-take-le}
use Rattle.cells.specs.Runs.{same}
use Rattle.armor.specs.Value.{carried}
use Rattle.armor.proofs.Texts.{front_taken}
use Rattle.reply.specs.InnerWritten.{reply_text}
use Rattle.reply.proofs.Rewriting.{written_with}
use Rattle.reply.proofs.reading.is_written.Goals as goal

pub slice_bounds-out-end : goal.slice_bounds-out-end
slice_bounds-out-end c = omega (arith, c.setup-len.ensures.2, c.setup-len.auto.out)

pub slice_bounds-same-end : goal.slice_bounds-same-end
slice_bounds-same-end c =
    sym (length-take-le c.setup-len.result c.setup-len.new.out (omega (arith, c.setup-len.ensures.2, c.setup-len.auto.out)))

pub returns : goal.returns
returns c =
    let put = c.setup-len in
    c.same.ensures
    ∙ ap (same c.args.text.now) (front_taken (reply_text c.args.reply.now) (replicate 1024 0) put.result put.ensures.1 put.ensures.0
    ∙ written_with (carried c.args.text.now) c.args.reply.now c.requires)

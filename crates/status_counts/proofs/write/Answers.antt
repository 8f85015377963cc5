-- What is printed stands at the front of the text.
use Rattle.std.proofs.Common.{◌≡◌, take, ap, ◌∙◌, arith}
use Rattle.cells.proofs.Runs.{front_spliced}
use Rattle.logs.specs.Printed.{printed}
use Rattle.status_counts.proofs.write.Goals as goal

pub returns : goal.returns
returns g c =
    let front : take c.print-size.result c.print-size.new.out ≡ printed c.args.counts.now =
    ap (take c.print-size.result) c.print-size.ensures.1.is
    ∙ front_spliced _ (printed c.args.counts.now) 0 _ (omega arith) c.print-size.ensures.1.ends in
    rw front at c.write_all.ensures.bytes

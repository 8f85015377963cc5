use Rattle.std.proofs.Common.{◌≡◌, ◌+◌, ◌*◌, length, arith, rules}
use Rattle.cells.proofs.Runs.{lent}
use Rattle.table.specs.Record.{record_bytes}
use Rattle.table.proofs.Records.{length_record_bytes}
use Rattle.table.proofs.session.store.Goals as goal

pub returns : goal.returns
returns c =
    let a = c.args in
    let iv : length a.session.iv ≡ 12 = search rules in
    lent a.table.now (record_bytes a.session) (31 * a.place) (31 * a.place + 31) c.write.ensures
    (omega (arith, length_record_bytes a.session iv))

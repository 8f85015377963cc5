-- A record's first byte tells whether it is used.
use borrow.Author.Tests.{lt-ltb, le-ltb}
use Rattle.table.proofs.Records.{length_records}
use Rattle.index.proofs.Keys.{used_byte}
use Rattle.index.proofs.order.is_used.Goals as goal

pub returns-then-place-table : goal.returns-then-place-table
returns-then-place-table c =
    let within = c.if-place-table.true in
    rw (length_records, lt-ltb _ _ within, used_byte _ _ within)

pub returns-else-place-table : goal.returns-else-place-table
returns-else-place-table c = rw (length_records, le-ltb _ _ c.if-place-table.false)

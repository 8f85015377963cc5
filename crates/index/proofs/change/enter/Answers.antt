-- The entry is put at the rank of the record's IV.
use Rattle.std.proofs.Common.{arith}
use Rattle.table.proofs.Records.{length_records}
use Rattle.index.proofs.Held.{holds_long}
use Rattle.index.proofs.Changed.{room_made, entry_made, ranks_of}
use Rattle.index.proofs.change.enter.Goals as goal

pub read-record-requires : goal.read-record-requires
read-record-requires c = omega (arith, c.requires.used, length_records c.args.table.now)

pub rank-at-requires : goal.rank-at-requires
rank-at-requires c = record { ps = c.requires.ps; holds = c.requires.holds }

pub slice_bounds-open-count : goal.slice_bounds-open-count
slice_bounds-open-count c = omega (arith, c.rank-at.ensures.within, holds_long c.requires.holds)

pub slice_bounds-open-start : goal.slice_bounds-open-start
slice_bounds-open-start c = omega (arith, c.rank-at.ensures.within, holds_long c.requires.holds)

pub open-requires : goal.open-requires
open-requires c = (
  room_made c.requires.holds _ (ranks_of c.args.table.now c.requires.used.0 c.read-record.ensures c.rank-at.ensures) c.requires.room,
  omega (arith, c.requires.used, c.requires.holds.small),
)

pub returns : goal.returns
returns c ps h few =
    entry_made h _ (ranks_of c.args.table.now c.requires.used.0 c.read-record.ensures c.rank-at.ensures) few c.«open».ensures

-- The entry that goes is the one at the rank of the record's IV.
use Rattle.std.proofs.Common.{sym, ◌∙◌, arith}
use mathlib.Core.Bool.{true≢false}
use Rattle.table.specs.Table.{records}
use Rattle.table.proofs.Records.{length_records}
use Rattle.index.proofs.Held.{indexed_holds, holds_long, used_told, told_used}
use Rattle.index.proofs.Changed.{room_taken, entry_taken, ranks_of, stands_of}
use Rattle.index.proofs.Beside.{freed_used, freed_unused}
use Rattle.index.proofs.change.leave.Goals as goal

pub returns-then-not-is_used : goal.returns-then-not-is_used
returns-then-not-is_used c =
    let inside = rw (← (length_records c.args.table.now)) at c.requires.0 in
    freed_unused _ _ c.requires.0 c.requires.1
    (λ u. true≢false (sym (told_used (records c.args.table.now) c.args.place (inside, u)) ∙ sym c.is_used.ensures ∙ c.if-not-is_used.true))

pub rank-at-requires : goal.rank-at-requires
rank-at-requires c = record { ps = _; holds = indexed_holds c.requires.1 }

pub overflow_mul-at : goal.overflow_mul-at
overflow_mul-at c = omega (arith, c.rank-at.ensures.within, c.requires.1.few, length_records c.args.table.now)

pub slice_bounds-close-count : goal.slice_bounds-close-count
slice_bounds-close-count c = omega (arith, c.rank-at.ensures.within, holds_long (indexed_holds c.requires.1))

pub slice_bounds-close-start : goal.slice_bounds-close-start
slice_bounds-close-start c = omega (arith, c.rank-at.ensures.within, holds_long (indexed_holds c.requires.1))

pub close-requires : goal.close-requires
close-requires c =
    let used = used_told (records c.args.table.now) c.args.place (sym c.is_used.ensures ∙ c.if-not-is_used.false) in
    room_taken (indexed_holds c.requires.1) _ (ranks_of c.args.table.now used.0 c.read-record.ensures c.rank-at.ensures) (stands_of _ used)

pub returns : goal.returns
returns c =
    let used = used_told (records c.args.table.now) c.args.place (sym c.is_used.ensures ∙ c.if-not-is_used.false) in
    freed_used _ _ c.requires.0 c.requires.1
    (entry_taken (indexed_holds c.requires.1) _ (ranks_of c.args.table.now used.0 c.read-record.ensures c.rank-at.ensures) (stands_of _ used)
    c.close.ensures)

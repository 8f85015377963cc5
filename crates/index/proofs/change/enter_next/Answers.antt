-- An unused record makes no entry.
use Rattle.std.proofs.Common.{sym, ◌∙◌}
use borrow.Author.Tests.{lt-ltb}
use Rattle.table.specs.Table.{records}
use Rattle.table.proofs.Records.{length_records}
use Rattle.index.proofs.Held.{used_told}
use Rattle.index.proofs.Making.{made_unused, made_enterable, made_used}
use Rattle.index.proofs.change.enter_next.Goals as goal

pub returns-else-is_used : goal.returns-else-is_used
returns-else-is_used c =
    let inside = rw (← (length_records c.args.table.now)) at c.requires.2 in
    made_unused _ c.requires.1 _ inside c.requires.0 (rw (lt-ltb _ _ inside) at (sym c.is_used.ensures ∙ c.if-is_used.false))

pub enter-requires : goal.enter-requires
enter-requires c =
    let used = used_told (records c.args.table.now) c.args.place (sym c.is_used.ensures ∙ c.if-is_used.true) in
    made_enterable _ c.requires.1 _ used.0 c.requires.0 used.1

pub returns-then-is_used : goal.returns-then-is_used
returns-then-is_used c =
    let used = used_told (records c.args.table.now) c.args.place (sym c.is_used.ensures ∙ c.if-is_used.true) in
    made_used _ c.requires.1 _ used.0 c.requires.0 used.1 c.enter.ensures

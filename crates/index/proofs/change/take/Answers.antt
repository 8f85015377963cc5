-- The place is freed, and its record then put among the others.
use Rattle.std.proofs.Common.{rules}
use Rattle.table.specs.Record.{Fits}
use Rattle.index.proofs.Beside.{inside_cleared, over_enterable, over_indexed}
use Rattle.index.proofs.change.take.Goals as goal

pub store-requires : goal.store-requires
store-requires c = inside_cleared _ _ c.requires.0 c.free.ensures.0

pub enter-requires : goal.enter-requires
enter-requires c =
    let fits : Fits c.args.«record» =
    record { used = search rules; iv = search rules; expiry = search rules; any = search rules; highest = search rules; bits = search rules; hash = search rules } in
    over_enterable _ _ c.requires.0 c.free.ensures.0 _ fits c.requires.2 c.requires.3 c.requires.4 c.free.ensures.1 c.store.ensures

pub returns : goal.returns
returns c =
    let fits : Fits c.args.«record» =
    record { used = search rules; iv = search rules; expiry = search rules; any = search rules; highest = search rules; bits = search rules; hash = search rules } in
    over_indexed _ _ c.requires.0 c.free.ensures.0 _ fits c.requires.2 c.requires.3 c.requires.4 c.free.ensures.1 c.store.ensures c.enter.ensures

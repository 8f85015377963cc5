-- The entries of lower IVs stand before all others.
use Rattle.std.proofs.Common.{◌≡◌, ◌<◌, ◌/◌, List, ℕ, length, get_or, arith, rules}
use Rattle.std.proofs.lemmas.List.Sorted.{IsPartitionPoint-from_clause}
use Rattle.table.specs.Table.{records}
use Rattle.index.specs.InnerEntries.{entry_at, low_at}
use Rattle.index.proofs.Held.{holds_long}
use Rattle.index.proofs.Finding.{chunk_entry, partitioned, ranks}
use Rattle.index.proofs.lookup.rank.Goals as goal

pub returns : goal.returns
returns c =
    let rs = records c.args.table.now in
    let iv = c.args.iv.now in
    let h = c.requires.holds in
    let entries = c.as_chunks.result.0.now in
    let long : length entries ≡ length rs = omega (arith, c.as_chunks.ensures.front_len, holds_long h) in
    let each : (k : ℕ) (d : List ℕ) → k < length entries → entry_at (get_or entries k d) 0 ≡ entry_at c.args.index.now k =
    λ k d l. rw c.as_chunks.ensures.front (chunk_entry c.args.index.now (length c.args.index.now / 2) k d (omega (arith, l, c.as_chunks.ensures.front_len))) in
    ranks h iv entries long each c.partition_point.result c.partition_point.ensures.bound
    (IsPartitionPoint-from_clause (λ e. low_at rs iv (entry_at e 0)) entries _ c.partition_point.ensures.partitioned
    (partitioned h iv entries long each) (λ a r f' k. search rules))

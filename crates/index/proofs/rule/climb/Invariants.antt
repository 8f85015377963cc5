-- The entries before k climb, and the last key is that of the one before it.
use Rattle.std.proofs.Common.{◌≡◌, ◌<◌, ◌-◌, true}
use Rattle.table.specs.Table.{records}
use Rattle.index.specs.InnerEntries.{rises_at, every}
use Rattle.index.proofs.Keys.{iv_of}
use Rattle.index.proofs.rule.climb.Given as goal

abbrev pub invariant-loop-k : goal.invariant-loop-k
invariant-loop-k l =
    (every (rises_at (records l.table) l.entries) l.k ≡ true)
    × (0 < l.k → l.last ≡ iv_of l.table l.entries (l.k - 1))

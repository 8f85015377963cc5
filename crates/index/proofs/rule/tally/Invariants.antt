-- The records passed are sound, and those of them that are used are counted.
use Rattle.std.proofs.Common.{◌≡◌, true}
use Rattle.table.specs.Table.{records}
use Rattle.index.specs.InnerEntries.{sound_at, every, used_to}
use Rattle.index.proofs.rule.tally.Given as goal

abbrev pub invariant-loop-place : goal.invariant-loop-place
invariant-loop-place l =
    (every (sound_at (records l.table)) l.place ≡ true) × (l.used ≡ used_to (records l.table) l.place)

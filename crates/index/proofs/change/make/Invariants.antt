-- The places of the records passed stand in the index.
use Rattle.table.specs.Table.{records}
use Rattle.index.specs.InnerEntries.{Made}
use Rattle.index.proofs.change.make.Given as goal

abbrev pub invariant-loop-place : goal.invariant-loop-place
invariant-loop-place l = Made (records l.table) l.place l.index

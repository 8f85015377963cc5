-- No name that the search passed is the one sought, and each number is below the one before it.
use Rattle.std.proofs.Common.{◌≤◌, ℕ, List}
use Rattle.names.specs.InnerSheet.{Sheet}
use Rattle.names.proofs.Sought.{Sought}
use Rattle.names.proofs.sheet.Sheet.number.Given as goal

abbrev pub invariant-loop-entry : goal.invariant-loop-entry
invariant-loop-entry l =
    (l.entry ≤ 64) × ((ns : List (List ℕ)) → Sheet l.self.known.now l.self.extra.now l.self.entries ns → Sought ns l.name l.entry)

abbrev pub decreases-loop-entry : goal.decreases-loop-entry
decreases-loop-entry l = l.entry

-- The records passed don't pass the test, whatever test of a record the closure is.
use Rattle.std.proofs.Common.{◌≡◌, ℕ, Bool, ◌<◌}
use Rattle.table.specs.declared.session.Record.{Record}
use Rattle.table.specs.Table.{places, record_at, first_from}
use Rattle.table.proofs.Scan.{Along}
use Rattle.table.proofs.place.first.Given as goal

abbrev pub invariant-loop-place : goal.invariant-loop-place
invariant-loop-place g l =
    (test : Record → Bool)
    → ((place : ℕ) (r : Bool) → place < places l.table → goal.F-post g l.passes place r → r ≡ test (record_at l.table place))
    → Along (first_from test) l.table l.start l.place-end l.place

-- The checks that calls begin with: document 01, 'The numbers a call returns', and document 02, K7, for the index.
-- Assumes nothing.
use Rattle.std.specs.Prelude.{Bool, not, List, [], ◌∷◌}
use Rattle.cells.specs.Runs.{same}
use Rattle.orders.specs.Orders.{Orders, orders_good}
use Rattle.table.specs.Table.{records}
use Rattle.table.specs.WellFormed.{well_formed}
use Rattle.index.specs.Index.{index_of}
use Rattle.stages.specs.Checks.{Check, check}
use Rattle.gate.specs.State.{State}

-- 3 and 22
unfoldable pub state_checks : State → List Check
state_checks s =
    check 3 (not (well_formed (records s.table)))
    ∷ check 22 (not (same s.index (index_of (records s.table))))
    ∷ []

-- 1, 2, 3, 22: what is lent has the right sizes, good orders, a well-formed table and the index that fits it
unfoldable pub entry_checks : Bool → Orders → State → List Check
entry_checks fits orders s = check 1 (not fits) ∷ check 2 (not (orders_good orders)) ∷ state_checks s

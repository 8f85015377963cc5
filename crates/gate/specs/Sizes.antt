-- The sizes of what is lent: document 01, 'Orders, records and sizes', and number 1, and document 02, K3, for the method, and K7, for table and
-- index. Extra names have no size here: too long ones are bad orders.
-- Assumes nothing.
use Rattle.std.specs.Prelude.{Bool, ◌&&◌, List, ℕ, ◌*◌, ◌%◌, eqb, leb, length}
use Rattle.table.specs.Record.{size}
use Rattle.table.specs.Table.{places}
use Rattle.stages.specs.Request.{Request}
use Rattle.gate.specs.Calls.{Setup}
use Rattle.gate.specs.State.{State}

abbrev pub long_from : ℕ → ℕ → List ℕ → Bool
long_from low high run = leb low (length run) && leb (length run) high

abbrev pub exactly : ℕ → List ℕ → Bool
exactly n run = eqb (length run) n

-- 1 to 4,096 whole records
unfoldable pub table_fits : List ℕ → Bool
table_fits table = eqb (length table % size) 0 && long_from size (4096 * size) table

-- and two bytes of the index for each
unfoldable pub state_fits : State → Bool
state_fits s = table_fits s.table && exactly (2 * places s.table) s.index

unfoldable pub setup_fits : Setup → State → Bool
setup_fits s state =
    exactly 32 s.server_key
    && (exactly 32 s.session_key
    && (exactly 12 s.iv
    && (long_from 1 64 s.session_id
    && (leb (length s.value) 4096
    && (state_fits state
    && leb 1024 (length s.reply))))))

-- of what a request brings
unfoldable pub brought_fits : Request → Bool
brought_fits q =
    leb (length q.value) 4096
    && (long_from 1 16 q.method
    && (leb (length q.head) 16384
    && (leb (length q.aside) 16384
    && (long_from 1 2048 q.path
    && leb (length q.body) 65536))))

-- of a request, the state apart
unfoldable pub lent_fits : Request → Bool
lent_fits q = exactly 32 q.server_key && (brought_fits q && leb 1024 (length q.reply))

unfoldable pub request_fits : Request → State → Bool
request_fits q state = lent_fits q && state_fits state

unfoldable pub end_fits : List ℕ → State → Bool
end_fits iv state = exactly 12 iv && state_fits state

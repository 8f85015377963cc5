-- Checks that a request passes, as the demands speak of them: demand 2, 'a request that passes the other checks', and demand 3, 'requests that
-- each reach the signature check'.
-- Assumes nothing.
use Rattle.std.specs.Prelude.{◌≡◌, List, ◌++◌}
use Rattle.stages.specs.Request.{Request}
use Rattle.gate.specs.State.{State}
use Rattle.stages.specs.Checks.{Check, first}
use Rattle.gate.specs.Judge.{entry_part}
use Rattle.stages.specs.Parts.{reading_part, token_part, vouching_part, session_part}

-- all but those of the nonce
abbrev pub other_checks : Request → State → List Check
other_checks q state = entry_part q state ++ (reading_part q ++ (vouching_part q ++ session_part q state.table))

abbrev pub PassesOthers : Request → State → Type 0
PassesOthers q state = first (other_checks q state) ≡ 0

-- those before that of the signature
abbrev pub before_signature : Request → State → List Check
before_signature q state = entry_part q state ++ (reading_part q ++ token_part q)

abbrev pub Reaches : Request → State → Type 0
Reaches q state = first (before_signature q state) ≡ 0

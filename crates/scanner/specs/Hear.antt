-- What `scanner_hear` answers: document 02, K14.
-- Assumes nothing.
use Rattle.std.specs.Prelude.{ℕ, not, cond, List, eqb}
use Rattle.cells.specs.Runs.{same}
use Rattle.reply.specs.Replies.{invalidation}
use Rattle.scanner.specs.Requests.{Grant}
use Rattle.scanner.specs.State.{no_session, session_in, in_session}
use Rattle.scanner.specs.Begin.{Answer, answer}

-- i: and the base64 of HMAC(session key, `Session Expired`), under the session's hash
abbrev pub own_invalidation : Grant → List ℕ
own_invalidation g = invalidation g.hash g.key

-- no session; anything but its invalidation
unfoldable pub hear_number : List ℕ → List ℕ → ℕ
hear_number value state =
    cond (not (in_session state)) 1
    (cond (not (same value (own_invalidation (session_in state).grant))) 4 0)

abbrev pub hear_answer : ℕ → List ℕ → Answer
hear_answer number state = cond (eqb number 0) (answer 0 no_session) (answer number state)

-- at 0 the session is gone
unfoldable pub heard : List ℕ → List ℕ → Answer
heard value state = hear_answer (hear_number value state) state

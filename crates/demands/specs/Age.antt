-- When a request is taken: document 01, 'Age, idleness and the window', and document 02, K1 and K6.
-- Assumes nothing.
use Rattle.std.specs.Prelude.{◌≡◌, ℕ, ◌+◌, ◌≤◌, ◌<◌}
use Rattle.stages.specs.Request.{Request, request_of}
use Rattle.stages.specs.Parts.{time_of, token_of, limits}
use Rattle.gate.specs.State.{State}
use Rattle.gate.specs.Judge.{judged}
use Rattle.demands.specs.Passing.{PassesOthers}

-- the same request, come at this time
abbrev pub arriving : ℕ → Request → Request
arriving clock q = request_of q.orders clock q.server_key q.value q.method q.head q.aside q.path q.body q.reply

-- its time lies at most its request life before now and at most 30 seconds after it
pub record InSpan (q : Request) : Type 0 where
  pub young : q.clock ≤ time_of q + (limits q).request_life
  pub near : time_of q ≤ q.clock + 30

-- before its token's expiry a request passes from 30 seconds before its time until so many seconds after it; it is 14 later and 21 sooner
pub record Ages (q : Request) (state : State) (life : ℕ) : Type 0 where
  pub passes : (clock : ℕ) → clock < (token_of q).expiry → clock ≤ time_of q + life → time_of q ≤ clock + 30 → PassesOthers (arriving clock q) state
  pub refused : (clock : ℕ) → clock < (token_of q).expiry → time_of q + life < clock → (judged (arriving clock q) state).number ≡ 14
  pub too_far_ahead : (clock : ℕ) → clock < (token_of q).expiry → clock + 30 < time_of q → (judged (arriving clock q) state).number ≡ 21

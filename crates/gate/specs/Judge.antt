-- Judging a request: document 01, 'The numbers a call returns', and document 02, K2, for the invalidation's hash, and K7, for the index.
-- Assumes nothing.
use Rattle.std.specs.Prelude.{Bool, cond, List, ◌++◌, ℕ, eqb, Option}
use Rattle.hashes.specs.declared.Hash.{Hash}
use Rattle.reply.specs.Replies.{invalidation}
use Rattle.table.specs.declared.session.Record.{Record}
use Rattle.table.specs.Record.{freed}
use Rattle.stages.specs.Request.{Request}
use Rattle.stages.specs.Checks.{Check, first}
use Rattle.table.specs.Session.{place_of, with_record}
use Rattle.stages.specs.Parts.{iv_of, hash_of, token_of, ordered, reading_part, vouching_part, admitting_part, next_of, invalidates}
use Rattle.gate.specs.State.{State, Outcome, untouched, replied, holding, indexed}
use Rattle.gate.specs.Sizes.{request_fits}
use Rattle.gate.specs.Entry.{entry_checks}

-- 1, 2, 3, 22: what is lent
unfoldable pub entry_part : Request → State → List Check
entry_part q s = entry_checks (request_fits q s) q.orders s

-- from 1 on, in order
unfoldable pub request_checks : Request → State → List Check
request_checks q s = entry_part q s ++ (reading_part q ++ (vouching_part q ++ admitting_part q s.table))

-- the state after a number: at 0 the session's record takes the nonce where nonces are ordered, and the index stays; at 10 and 13 the record is
-- freed if there is one, and the index is the one that fits then
unfoldable pub state_after : ℕ → Bool → Option ℕ → Record → State → State
state_after n nonces place next s =
    cond (eqb n 0) (cond nonces (holding (with_record s.table place next) s.index) s)
    (cond (invalidates n) (indexed (with_record s.table place freed)) s)

-- the reply: at 0 the session id, at 10 and 13 the invalidation under the session key and the request's hash
unfoldable pub answered : ℕ → List ℕ → List ℕ → Hash → List ℕ → State → Outcome
answered n id key hash reply s =
    cond (eqb n 0) (replied 0 id reply s)
    (cond (invalidates n) (replied n (invalidation hash key) reply s)
    (untouched n reply s))

-- what a number does
abbrev pub outcome_at : ℕ → Request → State → Outcome
outcome_at n q s =
    answered n (token_of q).id (token_of q).key (hash_of q) q.reply
    (state_after n (ordered q) (place_of s.table (iv_of q)) (next_of q s.table) s)

unfoldable pub judged : Request → State → Outcome
judged q s = outcome_at (first (request_checks q s)) q s

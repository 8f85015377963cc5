-- A history of calls on one table and its index, read off their answers and never off the table: demand 2, 'on a table that began empty and that only
-- these calls changed'. Calls, IVs and nonces stand with the latest first.
-- Assumes nothing.
use Rattle.std.specs.Prelude.{◌≡◌, Bool, false, cond, ◌&&◌, ◌||◌, List, [], ◌∷◌, ℕ, ◌*◌, eqb, replicate}
use Rattle.std.proofs.Math.Option.{Option, none, some}
use Rattle.cells.specs.Runs.{spliced, part, same}
use Rattle.hashes.specs.declared.Hash.{Hash}
use Rattle.window.specs.History.{keep}
use Rattle.table.specs.Record.{size}
use Rattle.signed.specs.SignedText.{orders_nonce}
use Rattle.gate.specs.Calls.{Setup}
use Rattle.stages.specs.Request.{Request}
use Rattle.gate.specs.State.{State, holding, indexed, Outcome}
use Rattle.gate.specs.Setup.{chosen_of, set_up}
use Rattle.stages.specs.Parts.{iv_of, nonce_of, invalidates}
use Rattle.gate.specs.Judge.{judged}
use Rattle.gate.specs.End.{ended}
use Rattle.gate.specs.Remake.{remade}

-- a call with what is lent to it, table and index apart
pub data Call : Type 0 where
  setting_up : Setup → Call
  judging : Request → Call
  -- by the thin entry, over the record at a place of the table: the host takes it out, and puts it back where it was
  judging_one : ℕ → Request → Call
  ending : List ℕ → Call
  making_index : Call

-- what the thin entry is lent of a table: a record, which is a table of its own beside its index
abbrev pub taken_out : ℕ → State → State
taken_out place state = indexed (part state.table (size * place) size)

-- the table with what it leaves
abbrev pub put_back : ℕ → State → State → State
put_back place state one = holding (spliced state.table (size * place) one.table) state.index

-- where the record was freed the host makes the index anew (document 02, K7)
abbrev pub caught_up : ℕ → State → State
caught_up number state = cond (invalidates number) (remade state).state state

abbrev pub judged_at : ℕ → Request → State → Outcome
judged_at place q state =
    let one = judged q (taken_out place state) in
    record { number = one.number; length = one.length; reply = one.reply; state = caught_up one.number (put_back place state one.state) }

abbrev pub answer : Call → State → Outcome
answer (setting_up s) state = set_up s state
answer (judging q) state = judged q state
answer (judging_one place q) state = judged_at place q state
answer (ending iv) state = ended iv state
answer making_index state = remade state

-- a table of n free records, and an index without an entry
abbrev pub empty : ℕ → State
empty n = holding (replicate (size * n) 0) (replicate (2 * n) 255)

-- what some calls leave: each got what the one before it left
unfoldable pub after : State → List Call → State
after state [] = state
after state (call ∷ earlier) = (answer call (after state earlier)).state

-- with the nonce of a request with this IV and with nonces ordered, if it was answered 0
abbrev pub with_nonce : List ℕ → Request → ℕ → List ℕ → List ℕ
with_nonce iv q number nonces =
    keep (eqb number 0 && (orders_nonce q.orders.numbers.mask && same (iv_of q) iv)) (nonce_of q) nonces

abbrev pub with_accepted : List ℕ → Call → ℕ → List ℕ → List ℕ
with_accepted iv (setting_up s) number nonces = nonces
with_accepted iv (judging q) number nonces = with_nonce iv q number nonces
with_accepted iv (judging_one place q) number nonces = with_nonce iv q number nonces
with_accepted iv (ending other) number nonces = nonces
with_accepted iv making_index number nonces = nonces

-- the nonces accepted in the session of an IV
unfoldable pub accepted_in : List ℕ → State → List Call → List ℕ
accepted_in iv state [] = []
accepted_in iv state (call ∷ earlier) =
    with_accepted iv call (answer call (after state earlier)).number (accepted_in iv state earlier)

-- with the IV of a call, if it is a setup that was answered 0
abbrev pub with_set_up : Call → ℕ → List (List ℕ) → List (List ℕ)
with_set_up (setting_up s) number ivs = cond (eqb number 0) (s.iv ∷ ivs) ivs
with_set_up (judging q) number ivs = ivs
with_set_up (judging_one place q) number ivs = ivs
with_set_up (ending iv) number ivs = ivs
with_set_up making_index number ivs = ivs

-- the IVs of the setups that were answered 0
unfoldable pub set_up_in : State → List Call → List (List ℕ)
set_up_in state [] = []
set_up_in state (call ∷ earlier) = with_set_up call (answer call (after state earlier)).number (set_up_in state earlier)

-- with the hash that a call chose for an IV, if it is a setup with that IV that was answered 0
abbrev pub with_chosen : List ℕ → Call → ℕ → Option Hash → Option Hash
with_chosen iv (setting_up s) number earlier = cond (eqb number 0 && same s.iv iv) (some (chosen_of s)) earlier
with_chosen iv (judging q) number earlier = earlier
with_chosen iv (judging_one place q) number earlier = earlier
with_chosen iv (ending other) number earlier = earlier
with_chosen iv making_index number earlier = earlier

-- the hash that the setup of an IV chose: the latest one, which is the session's
unfoldable pub chosen_in : List ℕ → State → List Call → Option Hash
chosen_in iv state [] = none
chosen_in iv state (call ∷ earlier) = with_chosen iv call (answer call (after state earlier)).number (chosen_in iv state earlier)

-- with the IV that is lent to a call, if it is a setup
abbrev pub with_lent : Call → List (List ℕ) → List (List ℕ)
with_lent (setting_up s) ivs = s.iv ∷ ivs
with_lent (judging q) ivs = ivs
with_lent (judging_one place q) ivs = ivs
with_lent (ending iv) ivs = ivs
with_lent making_index ivs = ivs

-- the IVs that were lent to setups, whatever the answer
unfoldable pub lent_in : List Call → List (List ℕ)
lent_in [] = []
lent_in (call ∷ earlier) = with_lent call (lent_in earlier)

-- an IV stands in a list
abbrev pub iv_among : List (List ℕ) → List ℕ → Bool
iv_among [] iv = false
iv_among (other ∷ ivs) iv = same iv other || iv_among ivs iv

-- no IV stands there twice
abbrev pub Apart : List (List ℕ) → Type 0
Apart [] = Unit
Apart (iv ∷ ivs) = (iv_among ivs iv ≡ false) × Apart ivs

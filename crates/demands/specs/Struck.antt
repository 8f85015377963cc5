-- Calls struck out of a history, and what is left of a session: document 02, K9. Calls and what they tell stand with the latest first, as in History.
-- Assumes nothing.
use Rattle.std.specs.Prelude.{◌≡◌, Bool, true, false, cond, not, ◌&&◌, List, [], ◌∷◌, ◌↔◌, ℕ, ◌<◌, length, Some}
use Rattle.std.proofs.Math.Option.{Option, none, some}
use Rattle.cells.specs.Runs.{Bytes, same}
use Rattle.armor.specs.Value.{grammar}
use Rattle.armor.specs.Fields.{request_fields}
use Rattle.table.specs.declared.session.Record.{Record}
use Rattle.table.specs.Record.{window_of}
use Rattle.table.specs.Table.{places, records}
use Rattle.table.specs.Session.{place_of, held_at}
use Rattle.table.specs.WellFormed.{WellFormed}
use Rattle.stages.specs.Request.{Request}
use Rattle.stages.specs.Checks.{missing}
use Rattle.stages.specs.Parts.{fields_of, iv_of}
use Rattle.gate.specs.State.{State, Outcome}
use Rattle.gate.specs.Sizes.{state_fits}
use Rattle.demands.specs.Tables.{SessionAt}
use Rattle.demands.specs.Effects.{Right}
use Rattle.demands.specs.History.{Call, setting_up, judging, judging_one, ending, making_index, answer, after, lent_in}

-- what a host may lend to calls: a well-formed table of 1 to 4,096 records, and the index that fits it
pub record Lendable (state : State) : Type 0 where
  pub sizes : state_fits state ≡ true
  pub bytes : Bytes state.table
  pub well : WellFormed (records state.table)
  pub index : Right state

-- a request's value has good grammar and fields: 4 and 5 do not hold
abbrev pub legible : Request → Bool
legible q = not (missing (grammar q.value)) && request_fields (fields_of q)

-- the IV that a call bears: a legible request that of its iv field, a setup and an ending the one that is lent to them
abbrev pub borne : Call → Option (List ℕ)
borne (setting_up s) = some s.iv
borne (judging q) = cond (legible q) (some (iv_of q)) none
borne (judging_one place q) = cond (legible q) (some (iv_of q)) none
borne (ending iv) = some iv
borne making_index = none

abbrev pub passes : (List ℕ → Bool) → Option (List ℕ) → Bool
passes test none = false
passes test (some iv) = test iv

-- a call bears an IV that passes a test, this IV, another
abbrev pub bears_of : (List ℕ → Bool) → Call → Bool
bears_of test call = passes test (borne call)

abbrev pub bears : List ℕ → Call → Bool
bears iv = bears_of (λ other. same other iv)

abbrev pub bears_other : List ℕ → Call → Bool
bears_other iv = bears_of (λ other. not (same other iv))

-- a strike says of each call whether it goes, by how many came before it and by what it is; it spares an IV if every call that bears it stays
abbrev pub Strike : Type 0
Strike = ℕ → Call → Bool

abbrev pub Spares : List ℕ → Strike → Type 0
Spares iv strikes = (before : ℕ) (call : Call) → bears iv call ≡ true → strikes before call ≡ false

-- the calls that a strike leaves
unfoldable pub unstruck : Strike → List Call → List Call
unstruck strikes [] = []
unstruck strikes (call ∷ earlier) = cond (strikes (length earlier) call) (unstruck strikes earlier) (call ∷ unstruck strikes earlier)

-- what a call tells the host: its number, and the reply's length and buffer
pub record Told : Type 0 where
  pub number : ℕ
  pub length : ℕ
  pub reply : List ℕ

abbrev pub told : Outcome → Told
told o = record { number = o.number; length = o.length; reply = o.reply }

-- what the calls tell that bear an IV, in their order
unfoldable pub told_in : List ℕ → State → List Call → List Told
told_in iv state [] = []
told_in iv state (call ∷ earlier) =
    cond (bears iv call) (told (answer call (after state earlier)) ∷ told_in iv state earlier) (told_in iv state earlier)

-- the record that is found under an IV; a free one where there is none
abbrev pub session_in : List ℕ → List ℕ → Record
session_in iv table = held_at table (place_of table iv)

-- the session of an IV stands alike in two tables: the same record, at a place of the one and where that place is in the other
pub record StandsAlike (to : ℕ → ℕ) (iv one other : List ℕ) : Type 0 where
  pub session : session_in iv one ≡ session_in iv other
  pub place : (p : ℕ) → (place_of one iv ≡ Some p) ↔ (place_of other iv ≡ Some (to p))
  pub within : (p : ℕ) → (p < places one) ↔ (to p < places other)

-- places are where they were
abbrev pub here : ℕ → ℕ
here place = place

-- the calls for another table: the thin entry's host takes the record from where its place is there
abbrev pub elsewhere : (ℕ → ℕ) → Call → Call
elsewhere to (setting_up s) = setting_up s
elsewhere to (judging q) = judging q
elsewhere to (judging_one place q) = judging_one (to place) q
elsewhere to (ending iv) = ending iv
elsewhere to making_index = making_index

unfoldable pub all_elsewhere : (ℕ → ℕ) → List Call → List Call
all_elsewhere to [] = []
all_elsewhere to (call ∷ earlier) = elsewhere to call ∷ all_elsewhere to earlier

-- after some calls on one table and some on another, the session was told the same and stands alike
pub record SameSession (to : ℕ → ℕ) (iv : List ℕ) (one : State) (calls : List Call) (other : State) (calls' : List Call) : Type 0 where
  pub told : told_in iv one calls ≡ told_in iv other calls'
  pub stands : StandsAlike to iv (after one calls).table (after other calls').table

-- none of the calls bears an IV
abbrev pub NoneBears : List ℕ → List Call → Type 0
NoneBears iv [] = Unit
NoneBears iv (call ∷ earlier) = (bears iv call ≡ false) × NoneBears iv earlier

-- a session was not ended, its window took no nonce, and its later calls are told at once what they would have been told
pub record Unharmed (iv : List ℕ) (before after : State) : Type 0 where
  pub stands : (place : ℕ) → SessionAt before.table iv place → SessionAt after.table iv place
  pub window : window_of (session_in iv after.table) ≡ window_of (session_in iv before.table)
  pub told : (calls : List Call) → lent_in calls ≡ [] → told_in iv after calls ≡ told_in iv before calls

-- of some calls those that bear one of a maker's IVs
abbrev pub calls_of : (List ℕ → Bool) → List Call → List Call
calls_of mine = unstruck (λ before call. not (bears_of mine call))

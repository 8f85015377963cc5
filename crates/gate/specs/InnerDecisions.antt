-- What the code decides of a request, and what it then does, by the definitions of Judge.
-- Assumes nothing.
use Rattle.std.specs.Prelude.{◌≡◌, false, cond, List, ◌++◌, ℕ, ◌≤◌, length, Option, Some, None, Result, Ok, Err, MatchResult, IfOk}
use Rattle.cells.specs.InnerRun.{run_of}
use Rattle.table.specs.declared.session.Record.{Record}
use Rattle.table.specs.Record.{freed}
use Rattle.table.specs.Table.{places, Within}
use Rattle.table.specs.Session.{place_of, held_at, with_record}
use Rattle.index.specs.Index.{Indexed}
use Rattle.stages.specs.declared.refusal.Refusal.{Refusal}
use Rattle.stages.specs.declared.admitting.Session.{Session}
use Rattle.stages.specs.declared.settling.Decision.{Decision}
use Rattle.stages.specs.InnerRefusals.{number_of, number_in}
use Rattle.stages.specs.Request.{Request}
use Rattle.stages.specs.Checks.{Check, first, nowhere}
use Rattle.stages.specs.Parts.{iv_of, hash_of, token_of, reading_part, vouching_part, admitting_part, invalidates}
use Rattle.stages.specs.InnerStages.{tells, About, stored_of, Settles}
use Rattle.orders.specs.Orders.{Orders, OrderedBy}
use Rattle.orders.specs.declared.Ordered.{Ordered}
use Rattle.gate.specs.declared.asked.Asked.{Asked}
use Rattle.gate.specs.InnerSizes.{request_by}
use Rattle.gate.specs.State.{State, holding, indexed, Outcome, outcome}
use Rattle.gate.specs.Judge.{request_checks, answered}

-- the session of an IV in a table: where it stands, and what its record holds
abbrev pub StandsIn : List ℕ → List ℕ → Option Session → Type 0
StandsIn table iv (Some s) = (place_of table iv ≡ Some s.place) × (held_at table (Some s.place) ≡ s.record)
StandsIn table iv None = place_of table iv ≡ None

-- a refusal by some checks that touches nothing
pub record Refuses (checks : List Check) (e : Refusal) : Type 0 where
  pub is : first checks ≡ number_of e
  pub alone : tells (number_of e) ≡ false

-- from 4 on
abbrev pub after_entry : Request → List ℕ → List Check
after_entry q table = reading_part q ++ (vouching_part q ++ admitting_part q table)

abbrev pub Judges : Request → List ℕ → Result Decision Refusal → Type 0
Judges q table r =
    MatchResult r (λ d. (first (reading_part q) ≡ 0) × Settles q table d) (Refuses (after_entry q table))

-- from 1 on: the number, token and hash, place and next record, and where their effect needs it room for the reply
pub record DecidesAs (q : Request) (s : State) (d : Decision) : Type 0 where
  pub is : number_in d.outcome ≡ first (request_checks q s)
  pub knows : About (token_of q) (hash_of q) d
  pub room : 1024 ≤ length q.reply
  pub at : d.place ≡ place_of s.table (iv_of q)
  pub within : Within (places s.table) d.place
  pub indexed : Indexed s.table s.index
  pub next : IfOk d.outcome (λ next. next ≡ stored_of q s.table)

abbrev pub Decides : Request → State → Result Decision Refusal → Type 0
Decides q s r = MatchResult r (DecidesAs q s) (Refuses (request_checks q s))

-- of a request with these parts, with room for the reply
abbrev pub DecidesRequest : Orders → ℕ → List ℕ → Asked → State → Result Decision Refusal → Type 0
DecidesRequest o clock server_key a s r = (reply : List ℕ) → 1024 ≤ length reply → Decides (request_by o clock server_key a reply) s r

-- and from 4 on, of any with these parts, under orders that say this, and of any table in which the session stands so
abbrev pub JudgesRequest : Ordered → ℕ → List ℕ → Asked → List ℕ → Result Decision Refusal → Type 0
JudgesRequest ordered clock server_key a table r =
    (o : Orders) (reply : List ℕ) → OrderedBy o ordered → Judges (request_by o clock server_key a reply) table r

-- the state after an outcome at a place
abbrev pub left_at : Result (Option Record) Refusal → Option ℕ → State → State
left_at (Ok (Some next)) place s = holding (with_record s.table place next) s.index
left_at (Ok None) place s = s
left_at (Err e) place s = cond (invalidates (number_of e)) (indexed (with_record s.table place freed)) s

-- the effect of a decision on the state, and on the reply
abbrev pub left_by : Decision → State → State
left_by d s = left_at d.outcome d.place s

abbrev pub answered_by : Decision → List ℕ → State → Outcome
answered_by d reply s = answered (number_in d.outcome) (run_of d.token.id) d.token.key d.hash reply s

abbrev pub AnswerIs : Decision → List ℕ → List ℕ → ℕ → Type 0
AnswerIs d before after r = (s : State) → outcome r after s ≡ answered_by d before s

-- of one record: its place is the first, and the next record is as used and has the same IV
pub record Keeps (d : Decision) (r : Record) : Type 0 where
  pub within : Within 1 d.place
  pub next : (next : Record) → nowhere d.place ≡ false → d.outcome ≡ Ok (Some next) → (next.used ≡ r.used) × (next.iv ≡ r.iv)

-- What the code's stages answer for a request, by the parts of its checks. A stage is lent only what it looks at; what it answers holds
-- whatever the rest of the request is.
-- Assumes nothing.
use Rattle.std.specs.Prelude.{◌≡◌, Bool, not, cond, ◌||◌, List, [], ◌∷◌, ◌++◌, Option, Some, None, Result, Ok, Err, IfOk, ℕ, eqb, leb}
use denote.Ref.{Bor}
use Rattle.cells.specs.Runs.{same}
use Rattle.hashes.specs.declared.Hash.{Hash}
use Rattle.hashes.specs.Hashes.{named}
use Rattle.armor.specs.Value.{carried}
use Rattle.armor.specs.InnerAnswers.{Holds, Lies}
use Rattle.armor.specs.declared.Fields.{Fields}
use Rattle.armor.specs.declared.Request.{Request as ArmorRequest}
use Rattle.names.specs.Covered.{covered_names}
use Rattle.names.specs.declared.covered.Covered.{Covered}
use Rattle.lines.specs.InnerNotes.{NotesOf}
use Rattle.lines.specs.declared.remarks.Notes.{Notes}
use Rattle.orders.specs.Orders.{Orders, CoveredBy}
use Rattle.orders.specs.declared.Limits.{Limits}
use Rattle.orders.specs.declared.Ordered.{Ordered}
use Rattle.signed.specs.declared.Brought.{Brought}
use Rattle.token.specs.Token.{Token, has_token}
use Rattle.token.specs.InnerHeld.{IsToken}
use Rattle.token.specs.declared.Token.{Token as Held}
use Rattle.table.specs.Session.{place_of, held_at}
use Rattle.table.specs.declared.session.Record.{Record}
use Rattle.stages.specs.declared.admitting.Session.{Session}
use Rattle.stages.specs.declared.refusal.Refusal.{Refusal}
use Rattle.stages.specs.declared.settling.Decision.{Decision}
use Rattle.stages.specs.InnerRefusals.{number_in}
use Rattle.stages.specs.Request.{Request, request_of}
use Rattle.stages.specs.Checks.{Check, check, first}
use Rattle.stages.specs.Parts.{iv_of, hash_of, nonce_of, time_of, last_time_of, signature_of, opened_of, code_under, token_of, limits, ordered, next_of, covering_part, reading_part, token_part, vouching_part, admitting_part, invalidates}

-- a request that brings this
abbrev pub brought_as : Orders → ℕ → List ℕ → List ℕ → Brought → List ℕ → Request
brought_as o clock server_key value b reply =
    request_of o clock server_key value b.method.now b.lines.head.now b.lines.aside.now b.path.now b.body.now reply

-- notes on the names that are covered, in the lines of a request
abbrev pub CoveredNotes : Covered → List ℕ → List ℕ → Notes → Type 0
CoveredNotes covered head aside notes = NotesOf (covered_names covered.mask covered.extra.now) head aside notes

-- orders that cover and allow this; at their limits reading does not look
pub record ReadUnder (o : Orders) (r : Ordered) : Type 0 where
  pub covered : CoveredBy o r.covered
  pub hashes : r.hashes ≡ o.numbers.hashes

-- 6 to 8: the number, of any request with this value, method and lines, under any orders that cover and allow this
abbrev pub CoversIs : Ordered → List ℕ → List ℕ → List ℕ → List ℕ → Result Unit Refusal → Type 0
CoversIs ordered value method head aside r =
    (o : Orders) → ReadUnder o ordered → (clock : ℕ) (server_key path body reply : List ℕ)
    → number_in r ≡ first (covering_part (request_of o clock server_key value method head aside path body reply))

-- what the value carries
pub record HasRead (value : List ℕ) (fields : Fields) (r : ArmorRequest) : Type 0 where
  pub holds : Holds value (carried value) r
  pub lies : Lies (carried value) fields

-- 4 to 8: the number, and where none holds what was read
pub record Reads (q : Request) (fields : Fields) (r : Result ArmorRequest Refusal) : Type 0 where
  pub is : number_in r ≡ first (reading_part q)
  pub read : IfOk r (λ request. HasRead q.value fields request)

abbrev pub ReadIs : Ordered → List ℕ → List ℕ → List ℕ → List ℕ → Fields → Result ArmorRequest Refusal → Type 0
ReadIs ordered value method head aside fields r =
    (o : Orders) → ReadUnder o ordered → (clock : ℕ) (server_key path body reply : List ℕ)
    → Reads (request_of o clock server_key value method head aside path body reply) fields r

-- the first of the token's checks
abbrev pub opening_part : Request → List Check
opening_part q = check 9 (not (has_token (opened_of q))) ∷ []

-- 9: the number, and where it does not hold the token, whose expiry says whether 10 does
pub record Opens (q : Request) (r : Result Held Refusal) : Type 0 where
  pub is : number_in r ≡ first (opening_part q)
  pub holds : IfOk r (λ token. IsToken (token_of q) token)
  pub lasts : IfOk r (λ token. first (token_part q) ≡ cond (leb token.expiry.0 q.clock) 10 0)

abbrev pub UnsealIs : List ℕ → Fields → Result Held Refusal → Type 0
UnsealIs server_key fields r =
    (o : Orders) (clock : ℕ) (value method head aside path body reply : List ℕ) → Lies (carried value) fields
    → Opens (request_of o clock server_key value method head aside path body reply) r

-- 11: whether a session key has signed it
abbrev pub SignIs : Covered → List ℕ → ArmorRequest → Fields → Brought → Bool → Type 0
SignIs covered key request fields brought r =
    (o : Orders) → CoveredBy o covered → (clock : ℕ) (server_key value reply : List ℕ)
    → let q = brought_as o clock server_key value brought reply in
    Holds value (carried value) request → Lies (carried value) fields → r ≡ same (signature_of q) (code_under key q)

-- what opening answered, with the token where it lies
abbrev pub opened_as : Result (Bor Held) Refusal → Result Held Refusal
opened_as (Ok token) = Ok token.now
opened_as (Err refusal) = Err refusal

-- 9 to 11, of what opening answered
abbrev pub VouchIs : Covered → ℕ → Result (Bor Held) Refusal → ArmorRequest → Fields → Brought → Result Unit Refusal → Type 0
VouchIs covered clock opened request fields brought r =
    (o : Orders) → CoveredBy o covered → (server_key value reply : List ℕ)
    → let q = brought_as o clock server_key value brought reply in
    Holds value (carried value) request → Lies (carried value) fields → Opens q (opened_as opened) → number_in r ≡ first (vouching_part q)

-- the record that acceptance stores, where nonces are ordered
abbrev pub stored_of : Request → List ℕ → Option Record
stored_of q table = cond (ordered q) (Some (next_of q table)) None

-- from 12 on: the number, and where none holds the record to store
pub record Admits (q : Request) (table : List ℕ) (r : Result (Option Record) Refusal) : Type 0 where
  pub is : number_in r ≡ first (admitting_part q table)
  pub next : IfOk r (λ next. next ≡ stored_of q table)

-- a request's session stands at this place of a table and its record holds this, or it stands nowhere
abbrev pub StandsAt : Request → List ℕ → Option Session → Type 0
StandsAt q table (Some s) = (place_of table (iv_of q) ≡ Some s.place) × (held_at table (Some s.place) ≡ s.record)
StandsAt q table None = place_of table (iv_of q) ≡ None

-- what admitting is asked, of any request that asks it
pub record Asks (q : Request) (now' : ℕ) (request' : ArmorRequest) (limits' : Limits) (nonces' : Bool) : Type 0 where
  pub clock : q.clock ≡ now'
  pub t : time_of q ≡ request'.t.0
  pub lt : last_time_of q ≡ request'.lt.0
  pub within : limits q ≡ limits'
  pub hash : hash_of q ≡ named request'.h
  pub nonces : ordered q ≡ nonces'
  pub n : nonce_of q ≡ request'.n.0

abbrev pub AdmitIs : Option Session → ℕ → ArmorRequest → Limits → Bool → Result (Option Record) Refusal → Type 0
AdmitIs session clock request within nonces r =
    (q : Request) (table : List ℕ) → StandsAt q table session → Asks q clock request within nonces → Admits q table r

-- a number whose effect needs the session: 0, 10 and 13
abbrev pub tells : ℕ → Bool
tells n = eqb n 0 || invalidates n

-- the token and the hash that a decision is about
pub record About (token' : Token) (hash' : Hash) (d : Decision) : Type 0 where
  pub token : IsToken token' d.token
  pub hash : d.hash ≡ hash'

-- from 9 on: the number, the token, the hash and the place, and where none holds the record to store
pub record Settles (q : Request) (table : List ℕ) (d : Decision) : Type 0 where
  pub is : number_in d.outcome ≡ first (vouching_part q ++ admitting_part q table)
  pub knows : About (token_of q) (hash_of q) d
  pub at : d.place ≡ place_of table (iv_of q)
  pub next : IfOk d.outcome (λ next. next ≡ stored_of q table)

-- of any request that was vouched for by this answer and has this token, under any orders that order nonces or not, as this says
abbrev pub SettleIs : Bool → ℕ → Result Unit Refusal → Held → ArmorRequest → Limits → Option Session → Decision → Type 0
SettleIs nonces clock vouched token request within session d =
    (o : Orders) (server_key value method head aside path body reply table : List ℕ)
    → let q = request_of o clock server_key value method head aside path body reply in
    Holds value (carried value) request → number_in vouched ≡ first (vouching_part q) → IsToken (token_of q) token
    → within ≡ limits q → nonces ≡ ordered q → StandsAt q table session → Settles q table d

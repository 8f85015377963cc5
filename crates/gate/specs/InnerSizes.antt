-- What the size checks answer, by the definitions of Sizes.
-- Assumes nothing.
use Rattle.std.specs.Prelude.{◌≡◌, true, false, List, ℕ, Option, MatchOption}
use denote.Ref.{Bor}
use Rattle.orders.specs.Orders.{Orders}
use Rattle.stages.specs.Request.{Request, request_of}
use Rattle.gate.specs.declared.asked.Asked.{Asked}
use Rattle.gate.specs.declared.lent.Lent.{Lent}
use Rattle.gate.specs.Calls.{Setup, setup_of}
use Rattle.gate.specs.State.{holding}
use Rattle.gate.specs.Sizes.{setup_fits, brought_fits, lent_fits, end_fits}
use Rattle.gate.specs.Trial.{trial_of, trial_fits}

-- the parts of what a request brings
pub record Brings (value' method' head' aside' path' body' : List ℕ) (r : Asked) : Type 0 where
  pub value : r.value.now ≡ value'
  pub method : r.brought.method.now ≡ method'
  pub head : r.brought.lines.head.now ≡ head'
  pub aside : r.brought.lines.aside.now ≡ aside'
  pub path : r.brought.path.now ≡ path'
  pub body : r.brought.body.now ≡ body'

-- what a request brings, whatever numbers it comes with
abbrev pub AskedFits : List ℕ → List ℕ → List ℕ → List ℕ → List ℕ → List ℕ → Option Asked → Type 0
AskedFits value method head aside path body r =
    (o : Orders) (clock : ℕ) (server_key reply : List ℕ)
    → let fits = brought_fits (request_of o clock server_key value method head aside path body reply) in
    MatchOption r (fits ≡ false) (λ a. (fits ≡ true) × Brings value method head aside path body a)

-- what is lent with one, the state apart
abbrev pub RequestFits : List ℕ → List ℕ → List ℕ → List ℕ → List ℕ → List ℕ → List ℕ → List ℕ → Option (Bor (List ℕ) × Asked) → Type 0
RequestFits server_key value method head aside path body reply r =
    (o : Orders) (clock : ℕ)
    → let fits = lent_fits (request_of o clock server_key value method head aside path body reply) in
    MatchOption r (fits ≡ false) (λ l. (fits ≡ true) × (l.0.now ≡ server_key) × Brings value method head aside path body l.1)

-- what tries one
abbrev pub TrialFits : List ℕ → List ℕ → List ℕ → List ℕ → List ℕ → List ℕ → List ℕ → Option Asked → Type 0
TrialFits setup_reply value method head aside path body r =
    let fits = trial_fits (trial_of setup_reply value method head aside path body) in
    MatchOption r (fits ≡ false) (λ a. (fits ≡ true) × Brings value method head aside path body a)

-- the parts of what sets up a session
pub record SetsUp (s : Setup) (l : Lent) : Type 0 where
  pub server_key : l.server_key.now ≡ s.server_key
  pub session_key : l.session_key.now ≡ s.session_key
  pub iv : l.iv.now ≡ s.iv
  pub session_id : l.session_id.now ≡ s.session_id
  pub value : l.value.now ≡ s.value

-- what sets up a session, whatever numbers it comes with
abbrev pub SetupFits : List ℕ → List ℕ → List ℕ → List ℕ → List ℕ → List ℕ → List ℕ → List ℕ → Option Lent → Type 0
SetupFits server_key session_key iv session_id value table index reply r =
    (o : Orders) (clock : ℕ)
    → let s = setup_of o clock server_key session_key iv session_id value reply in
    let fits = setup_fits s (holding table index) in
    MatchOption r (fits ≡ false) (λ l. (fits ≡ true) × SetsUp s l)

-- the IV of a session to end
abbrev pub EndFits : List ℕ → List ℕ → List ℕ → Option (Bor (List ℕ)) → Type 0
EndFits iv table index r =
    let fits = end_fits iv (holding table index) in
    MatchOption r (fits ≡ false) (λ i. (fits ≡ true) × (i.now ≡ iv))

-- a request and a setup with these parts
abbrev pub request_by : Orders → ℕ → List ℕ → Asked → List ℕ → Request
request_by o clock server_key a reply =
    let b = a.brought in request_of o clock server_key a.value.now b.method.now b.lines.head.now b.lines.aside.now b.path.now b.body.now reply

abbrev pub setup_by : Orders → ℕ → Lent → List ℕ → Setup
setup_by o clock l reply = setup_of o clock l.server_key.now l.session_key.now l.iv.now l.session_id.now l.value.now reply

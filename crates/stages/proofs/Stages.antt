-- How the stages' answers make up the parts of a request's checks.
-- Assumes nothing.
use mathlib.Core.Path.{◌≡◌, refl, sym, subst, ◌∙◌}
use mathlib.Core.Bool.{Bool, true, false, cond, not, ◌&&◌}
use mathlib.Core.List.{List, [], ◌∷◌}
use mathlib.Core.Option.{Option, none, some, get_or}
use Prim.Native.Nat.{ℕ, ◌≤◌}
use native.Mathlib.Omega.{arith}
use lib.Dec.{eqb, leb}
use denote.Ref.{Bor}
use Rattle.std.specs.Prelude.{Result, Ok, Err}
use Rattle.std.specs.Prelude as P
use Rattle.cells.specs.InnerRun.{run_of}
use Rattle.cells.specs.Runs.{same}
use Rattle.cells.proofs.Tests.{tested}
use Rattle.hashes.specs.declared.Hash.{Hash}
use Rattle.hashes.specs.Hashes.{hash_mask, named}
use Rattle.hmac.specs.Hmac.{hmac_of}
use Rattle.armor.specs.declared.Unread.{Unread}
use Rattle.armor.specs.declared.Fields.{Fields}
use Rattle.armor.specs.declared.Request.{Request as ArmorRequest}
use Rattle.armor.specs.Value.{Field, grammar, carried}
use Rattle.armor.specs.Fields.{request_fields}
use Rattle.armor.specs.InnerAnswers.{request_from, request_answer, Holds, Lies}
use Rattle.signed.specs.SignedText.{request_text}
use Rattle.table.specs.declared.session.Record.{Record}
use Rattle.table.specs.Record.{window_of, with_window}
use Rattle.token.specs.Token.{opened_token, has_token}
use Rattle.token.specs.InnerHeld.{IsToken, Unseals}
use Rattle.token.specs.declared.Token.{Token as Held}
use Rattle.window.specs.declared.Window.{Window}
use Rattle.window.specs.declared.Stepped.{Stepped}
use Rattle.window.specs.Time.{exceeds, most_ahead}
use Rattle.window.specs.Window.{number_of, step_of}
use Rattle.stages.specs.declared.refusal.Refusal.{Refusal}
use Rattle.stages.specs.declared.refusal.Refusal.TheVariants.{BadToken}
use Rattle.stages.specs.InnerRefusals.{number_in, RefusedUnread}
use Rattle.stages.specs.InnerRefusals as R
use Rattle.stages.specs.Request.{Request}
use Rattle.names.specs.declared.covered.Covered.{Covered}
use Rattle.orders.specs.Orders.{Orders, CoveredBy, OrderedBy}
use Rattle.orders.specs.declared.Ordered.{Ordered}
use Rattle.orders.specs.declared.Limits.{Limits}
use Rattle.stages.specs.declared.admitting.Session.{Session}
use Rattle.stages.specs.Checks.{Check, check, first, missing}
use Rattle.table.specs.Session.{place_of}
use Rattle.stages.specs.Parts.{fields_of, iv_of, hash_of, nonce_of, time_of, last_time_of, signature_of, opened_of, token_of, text_of, code_under, code_of, ordered, keeps_hash, stepped, next_of, covering_part, reading_part, token_part, signature_part, vouching_part, session_part, nonce_part, admitting_part}
use Rattle.stages.specs.InnerStages.{ReadUnder, opened_as, Opens, StandsAt, Asks, Admits, Settles}
use Rattle.stages.proofs.Checks.{passed_by, stopped_by}
use Rattle.stages.proofs.Parts.{token_numbered, vouching_numbered}
use Rattle.stages.proofs.Refusals.{some_number}

-- a value that cannot be read is refused by 4 or 5
abbrev fields_answer : Bool → Result Unit Unread
fields_answer right = cond right (Ok tt) (Err Unread.Fields)

broken : (o : Option (List Field)) → request_from o ≡ Err Unread.Grammar → missing o ≡ true
broken none e = refl
broken (some fs) e = by (request_fields fs) e
  where
    by : (b : Bool) → fields_answer b ≡ Err Unread.Grammar → missing (some fs) ≡ true
    by true z = cc
    by false z = cc

-- one that can be has its grammar, and the right fields or not
record Complete (o : Option (List Field)) (right : Bool) : Type 0 where
  grammar : missing o ≡ false
  fields : request_fields (get_or o []) ≡ right

complete : (o : Option (List Field)) (right : Bool) → request_from o ≡ fields_answer right → Complete o right
complete none true e = cc
complete none false e = cc
complete (some fs) right e = record { grammar = refl; fields = by (request_fields fs) right e }
  where
    by : (a b : Bool) → fields_answer a ≡ fields_answer b → a ≡ b
    by true true z = refl
    by true false z = cc
    by false true z = cc
    by false false z = refl

pub unread : (q : Request) (why : Unread) (r : Refusal) → request_answer q.value ≡ Err why → RefusedUnread why r → R.number_of r ≡ first (reading_part q)
unfolding request_answer reading_part fields_of carried
unread q Unread.Grammar r e is = rw is (simp (broken (grammar q.value) e))
unread q Unread.Fields r e is =
    let told = complete (grammar q.value) false e in
    rw is (simp (told.grammar, told.fields))

pub good_fields : (v : List ℕ) → request_answer v ≡ Ok tt → request_fields (carried v) ≡ true
unfolding request_answer carried
good_fields v e = (complete (grammar v) true e).fields

pub read_on : (q : Request) → request_answer q.value ≡ Ok tt → first (reading_part q) ≡ first (covering_part q)
unfolding request_answer reading_part fields_of carried
read_on q e =
    let told = complete (grammar q.value) true e in
    simp (told.grammar, told.fields)

-- orders that say this cover and allow it
pub read_under : {o : Orders} {r : Ordered} → OrderedBy o r → ReadUnder o r
read_under by = record { covered = by.covered; hashes = by.hashes }

-- whether the token opens, of a request that was read
pub opens : (q : Request) (fields : Fields) → Lies (carried q.value) fields → (u : P.Option Held)
    → Unseals (opened_token q.server_key fields.iv (run_of fields.s) fields.tag) u → (a : Result Held Refusal) → a ≡ P.ok_or u BadToken → Opens q a
unfolding opened_of iv_of fields_of token_of token_part
opens q fields lies P.None told a is =
    rw is (record { is = simp (← lies.token, ← lies.vector, ← lies.tag, told); holds = tt; lasts = tt })
opens q fields lies (P.Some token) told a is = rw is (record {
  is = simp (← lies.token, ← lies.vector, ← lies.tag, told.0);
  holds = rw (← lies.token, ← lies.vector, ← lies.tag) told.1;
  lasts = simp (← lies.token, ← lies.vector, ← lies.tag, told.0, told.1.expiry);
})

-- what opening answered, by cases
pub opening : {q : Request} {opened is : Result (Bor Held) Refusal} → opened ≡ is → Opens q (opened_as opened) → Opens q (opened_as is)
opening {q} e = subst (λ (r : Result (Bor Held) Refusal). Opens q (opened_as r)) e

-- what the token and the signature come to, where no token opened
pub unopened_by : (q : Request) (refusal : Refusal) → Opens q (Err refusal) → R.number_of refusal ≡ first (vouching_part q)
unfolding token_part
unopened_by q refusal o =
    tested (has_token (opened_of q)) (λ e. let none : R.number_of refusal ≡ 0 = o.is ∙ rw e refl in absurd (omega (arith, some_number refusal, none)))
    (λ e. o.is ∙ rw e refl)

-- and of a token that opened
module _ (q : Request) (token : Held) (o : Opens q (Ok token)) where
  pub lapsed : leb token.expiry.0 q.clock ≡ true → 10 ≡ first (vouching_part q)
  lapsed late =
      let ten : first (token_part q) ≡ 10 = o.lasts ∙ rw late refl in
      sym (stopped_by (token_part q) (signature_part q) (token_numbered q) (λ z. omega arith) ∙ ten)

  pub vouched_by : leb token.expiry.0 q.clock ≡ false → (signed : Bool) → signed ≡ same (signature_of q) (code_under token.key q)
      → cond (not signed) 11 0 ≡ first (vouching_part q)
  unfolding signature_part code_of
  vouched_by early signed is =
      sym (passed_by (token_part q) (signature_part q) (token_numbered q) (o.lasts ∙ rw early refl) ∙ simp (← o.holds.key, ← is))

-- the hash that a request's h names
pub read_hash : (q : Request) {r : ArmorRequest} {hash : Hash} → Holds q.value (carried q.value) r → hash ≡ named r.h → hash_of q ≡ hash
unfolding hash_of fields_of
read_hash q h e = rw (← h.hash) (sym e)

-- its signature, held against the code that was made
pub signed_by_lem : (q : Request) (covered : Covered) → CoveredBy q.orders covered → (r : ArmorRequest) (fields : Fields)
    → Holds q.value (carried q.value) r → Lies (carried q.value) fields → (key : List ℕ) (hash : Hash) → hash ≡ named r.h → (code : List ℕ)
    → code ≡ hmac_of hash key (request_text q.method hash covered.mask covered.extra.now r.n.0 r.t.0 r.lt.0 q.aside q.head q.path q.body)
    → same (run_of fields.c) code ≡ same (signature_of q) (code_under key q)
unfolding signature_of text_of nonce_of time_of last_time_of fields_of
signed_by_lem q covered by r fields h lies key hash named code made =
    simp (read_hash q h named, ← lies.signature, made, by.mask, by.extra, h.nonce, h.time, h.last_time)

-- what a session's checks come to, over what admitting is lent
abbrev lent_part : P.Option Session → ℕ → ArmorRequest → Limits → Bool → List Check
lent_part P.None clock r within nonces = check 12 true ∷ []
lent_part (P.Some s) clock r within nonces =
    let verdict = number_of (step_of (window_of s.record) r.n.0).verdict in
    check 8 (not (eqb s.record.hash (hash_mask (named r.h))))
    ∷ check 13 (exceeds r.t.0 r.lt.0 within.idle)
    ∷ check 14 (exceeds clock r.t.0 within.request_life)
    ∷ check 21 (exceeds r.t.0 clock most_ahead)
    ∷ check 15 (nonces && eqb verdict 15)
    ∷ check 16 (nonces && eqb verdict 16)
    ∷ []

module _ (q : Request) (table : List ℕ) (clock : ℕ) (r : ArmorRequest) (within : Limits) (nonces : Bool) (a : Asks q clock r within nonces) where
  -- the request's checks against the session are those
  pub lent : (session : P.Option Session) → StandsAt q table session → first (admitting_part q table) ≡ first (lent_part session clock r within nonces)
  unfolding session_part nonce_part keeps_hash stepped
  lent P.None s = simp s
  lent (P.Some session) s = simp (s.0, s.1, a.clock, a.t, a.lt, a.within, a.hash, a.nonces, a.n)

  module _ (session : P.Option Session) (s : StandsAt q table session) where
    pub turned_away : (refusal : Refusal) → first (lent_part session clock r within nonces) ≡ R.number_of refusal → Admits q table (Err refusal)
    turned_away refusal f = record { is = sym (lent session s ∙ f); next = tt }

    pub let_through : first (lent_part session clock r within nonces) ≡ 0 → nonces ≡ false → Admits q table (Ok P.None)
    let_through f unordered = record { is = sym (lent session s ∙ f); next = rw (a.nonces, unordered) refl }

    -- its record with the window after the nonce
    pub stored : (own : Session) → session ≡ P.Some own → first (lent_part session clock r within nonces) ≡ 0 → nonces ≡ true
        → (w : Window) → w ≡ window_of own.record → (answer : Stepped) → answer ≡ step_of w r.n.0
        → (next : Record) → next ≡ with_window own.record answer.window → Admits q table (Ok (P.Some next))
    unfolding next_of stepped
    stored own there f ordered w window answer step next is =
        let stands : StandsAt q table (P.Some own) = rw there at s in
        record { is = sym (lent session s ∙ f); next = simp (a.nonces, ordered, stands.0, stands.1, a.n, is, step, window) }

place_at : (q : Request) (table : List ℕ) (session : P.Option Session) → StandsAt q table session
    → (place : P.Option ℕ) → P.MatchOption session (place ≡ P.None) (λ s. place ≡ P.Some s.place) → place ≡ place_of table (iv_of q)
place_at q table P.None s place e = e ∙ sym s
place_at q table (P.Some session) s place e = e ∙ sym s.0

-- what becomes of a request that was vouched for by this answer, by what its session answers where it was
pub settled : (q : Request) (table : List ℕ) (session : P.Option Session) → StandsAt q table session
    → (place : P.Option ℕ) → P.MatchOption session (place ≡ P.None) (λ s. place ≡ P.Some s.place) → (token : Held) → IsToken (token_of q) token
    → (hash : Hash) → hash_of q ≡ hash → (vouched : Result Unit Refusal) → number_in vouched ≡ first (vouching_part q)
    → (outcome : Result (P.Option Record) Refusal) → P.MatchResult vouched (λ v. Admits q table outcome) (λ r. outcome ≡ Err r)
    → Settles q table (record { place = place; token = token; hash = hash; outcome = outcome })
settled q table session s place at token about hash named (Ok v) is outcome told = record {
  is = told.is ∙ sym (passed_by (vouching_part q) (admitting_part q table) (vouching_numbered q) (sym is));
  knows = record { token = about; hash = sym named };
  at = place_at q table session s place at;
  next = told.next;
}
settled q table session s place at token about hash named (Err r) is outcome told = rw told (record {
  is = is ∙ sym (stopped_by (vouching_part q) (admitting_part q table) (vouching_numbered q) (λ z. let some : 1 ≤ R.number_of r = some_number r in omega (arith, is)));
  knows = record { token = about; hash = sym named };
  at = place_at q table session s place at;
  next = tt;
})

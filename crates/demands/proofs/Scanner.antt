-- A scanner of ours and the gate that set it up: document 02, K14. What is asked of what happens stands in specs/Scanner.antt.
-- Assumes nothing.
pub mod Begins
pub mod Client
pub mod Requests
pub mod States
pub mod Witnesses
use mathlib.Core.Path.{◌≡◌, refl, sym, ap, ap₂, subst, ◌∙◌}
use mathlib.Core.Bool.{Bool, true, false, true≢false, cond, not}
use mathlib.Core.List.{List, [], ◌∷◌}
use mathlib.Core.Logic.{⊎_elim}
use Prim.Native.Nat.{ℕ, ◌+◌, ◌≤◌, ◌<◌, ◌^◌}
use native.Mathlib.Omega.{arith}
use borrow.Author.Tests.{eq-eqb}
use lib.ListN.{length, take}
use Rattle.cells.specs.Runs.{Bytes}
use Rattle.cells.proofs.Tests.{tested}
use Rattle.hashes.specs.Hashes.{hash_mask}
use Rattle.signed.specs.SignedText.{orders_nonce}
use Rattle.window.proofs.Steps.{newest}
use Rattle.table.specs.declared.session.Record.{Record}
use Rattle.std.specs.Prelude.{Option, Some}
use Rattle.table.specs.Record.{window_of}
use Rattle.table.specs.Table.{is_used}
use Rattle.table.specs.Session.{place_of, held_at}
use Rattle.scanner.specs.Requests as Own
use Rattle.scanner.specs.Requests.{Grant}
use Rattle.scanner.specs.State as S
use Rattle.scanner.specs.State.{state_size, Session, no_session, state_of}
use Rattle.scanner.specs.Begin.{answer, begun}
use Rattle.scanner.specs.Sign.{Draft, message_in, value_in, advanced, signed}
use Rattle.scanner.specs.Hear.{own_invalidation, heard}
use Rattle.scanner.proofs.Calls.{made, value_is, made_or_kept, advanced_grant, advanced_next, Kept, in_kept, kept_signed, kept_ended}
use Rattle.token.specs.Token.{Token}
use Rattle.reply.specs.Replies.{invalidation}
use Rattle.stages.specs.Request.{Request, request_of}
use Rattle.stages.specs.Checks.{nowhere}
use Rattle.stages.specs.Parts.{fields_of, iv_of, hash_of, nonce_of, opened_of, token_of}
use Rattle.gate.specs.Calls.{Setup}
use Rattle.gate.specs.State.{State}
use Rattle.gate.specs.Setup.{chosen_of, new_token, reply_of, set_up}
use Rattle.gate.specs.Judge.{judged}
use Rattle.demands.specs.Effects.{TenOrThirteen}
use Rattle.demands.specs.History.{Call, setting_up, judging}
use Rattle.demands.specs.Struck.{Lendable, bears, session_in}
use Rattle.demands.specs.Client.{Message, client_request, LentBytes, Fair}
use Rattle.demands.specs.Trial.{SetupReply}
use Rattle.demands.specs.Scanner.{grant_of, World, world_of, Arrival, Event, losing, sending, calling, arriving, happening, world_after, Proper, AllInOrder, AllTaken}
use Rattle.demands.proofs.Shared.Answers.{next, set_up_number}
use Rattle.demands.proofs.Shared.Named.{placed, found_session}
use Rattle.demands.proofs.Untouched as Untouched
use Rattle.demands.proofs.Struck.Calls.{turned, judge_turns}
use Rattle.demands.proofs.Struck.Kept.{Ready, ready, ready_left}
use Rattle.demands.proofs.Struck.Compared.{unused}
use Rattle.demands.proofs.Arrival.Others.{stood}
use Rattle.demands.proofs.Client.{client_nonce}
use Rattle.demands.proofs.Client.Replies.{setup_writes}
use Rattle.demands.proofs.Scanner.Begins.{begins, begins_kept}
use Rattle.demands.proofs.Scanner.Client.{told, value_told, Small, hash_is, token_is, iv_fair, served, session_new}
use Rattle.demands.proofs.Scanner.Requests.{arrived, request_is, fair}

-- the scanner takes what a setup that is done wrote, and keeps what it brings
module _ (s : Setup) (before : State) (time : ℕ) (room : List ℕ) (lent_bytes : LentBytes s) (ok : (set_up s before).number ≡ 0) where
  wrote : SetupReply (reply_of s)
  wrote = setup_writes s before (sym (set_up_number s before) ∙ ok) lent_bytes (reply_of s) refl

  pub begun_by_reply : length room ≡ state_size
      → begun time (reply_of s) room ≡ answer 0 (state_of (record { grant = grant_of s; last_time = time; next = 0 }))
  unfolding wrote setup_writes
  begun_by_reply long = begins (reply_of s) wrote time room long

  begun_kept : time < 2 ^ 32 → length room ≡ state_size
      → Kept (record { grant = grant_of s; last_time = time; next = 0 }) (begun time (reply_of s) room).state
  unfolding wrote setup_writes
  begun_kept small long = begins_kept (reply_of s) wrote time room long small

module _ (s : Setup) where
  abbrev ordered : Bool
  ordered = orders_nonce s.orders.numbers.mask

  -- a record of the session, whose nonces so far are below the next one
  record Serves (next : ℕ) (r : Record) : Type 0 where
    hash : r.hash ≡ hash_mask (chosen_of s)
    below : (window_of r).any ≡ true → r.highest.0 < next

  -- what stays so, whatever happens in order
  record Agree (w : World) : Type 0 where
    ready : Ready w.gate
    session : Session
    kept : Kept session w.scanner
    grant : session.grant ≡ grant_of s
    serves : (place : ℕ) → place_of w.gate.table s.iv ≡ Some place → Serves session.next (session_in s.iv w.gate.table)

  -- more nonces are below a later one
  serves_later : {n l : ℕ} {r : Record} → n ≤ l → Serves n r → Serves l r
  serves_later later v = record { hash = v.hash; below = λ any. let b = v.below any in omega arith }

  module _ (before : State) (lent_bytes : LentBytes s) (ok : (set_up s before).number ≡ 0) (w : World) (g : Agree w) where
    -- a request
    module _ (d : Draft) (out : List ℕ) (a : Arrival) (small : d.clock < 2 ^ 32) (p : Proper s d out a w) where
      abbrev q : Request
      q = arriving s d out a w.scanner

      abbrev r : Record
      r = session_in s.iv w.gate.table

      abbrev n : ℕ
      n = g.session.next

      place : (i : ℕ) × (place_of w.gate.table s.iv ≡ Some i)
      place = placed (place_of w.gate.table s.iv) p.stands

      old : Serves n r
      old = g.serves place.0 place.1

      used : r.used ≡ 1
      used = ap (λ (i : Option ℕ). (held_at w.gate.table i).used) place.1 ∙ (found_session w.gate.table s.iv place.0 place.1).used

      abbrev message : Message
      message = arrived g.session d a

      message_fair : Fair s message a.clock a.reply
      message_fair = fair s g.session g.grant w g.kept d out a small p

      request : q ≡ client_request s message a.clock a.reply
      request = request_is s g.session g.grant w g.kept d out a small p

      accepted : (judged q w.gate).number ≡ 0
      accepted =
          ap (λ (x : Request). (judged x w.gate).number) request
          ∙ served s before lent_bytes ok message a.clock a.reply message_fair w.gate g.ready r refl used old.hash
          ∙ tested ordered (λ o. rw o (newest (window_of r) n old.below).0) (λ o. rw o refl)

      -- its session's record holds its nonce then
      session_after : session_in s.iv (judged q w.gate).state.table ≡ cond ordered (next (nonce_of q) r) r
      session_after =
          let iv = ap iv_of request ∙ iv_fair s before lent_bytes ok message a.clock a.reply message_fair in
          ap (λ (v : List ℕ). session_in v (judged q w.gate).state.table) (sym iv)
          ∙ (judge_turns q w.gate g.ready.well g.ready.whole).session
          ∙ ap₂ (turned q) accepted (ap (λ (v : List ℕ). session_in v w.gate.table) iv)

      nonce_is : ordered ≡ true → nonce_of q ≡ n
      nonce_is o = ap nonce_of request ∙ client_nonce s before message a.clock a.reply lent_bytes ok message_fair o

      next_is : ordered ≡ true → (advanced g.session d.clock).next ≡ n + 1
      unfolding advanced
      next_is o = ap (λ (x : Grant). n + cond (orders_nonce x.mask) 1 0) g.grant ∙ rw o refl

      -- and still stands
      stands_after : nowhere (place_of (judged q w.gate).state.table s.iv) ≡ false
      stands_after =
          unused s.iv (judged q w.gate).state.table
          ∙ ap (λ (x : Record). not (is_used x)) session_after
          ∙ tested ordered (λ o. rw (o, eq-eqb r.used 1 used) refl) (λ o. rw (o, eq-eqb r.used 1 used) refl)

      serves_after : Serves (advanced g.session d.clock).next (cond ordered (next (nonce_of q) r) r)
      serves_after =
          tested ordered
          (λ o. rw (o, nonce_is o, next_is o) (record { hash = old.hash; below = λ any. omega (arith, (newest (window_of r) n old.below).1) }))
          (λ o. rw o (serves_later (advanced_next g.session d.clock) old))

      own_agrees : Agree (happening s (sending d out a) w)
      own_agrees = record {
        ready = ready_left w.gate g.ready (judging q);
        session = advanced g.session d.clock;
        kept = kept_signed g.kept d out small p.made;
        grant = advanced_grant g.session d.clock ∙ g.grant;
        serves = λ i at. subst (λ (x : Record). Serves (advanced g.session d.clock).next x) (sym session_after) serves_after;
      }

    -- one that is lost, or was not made
    lost_agrees : (d : Draft) (out : List ℕ) → d.clock < 2 ^ 32 → Agree (happening s (losing d out) w)
    lost_agrees d out small =
        ⊎_elim
        (λ e. record {
          ready = g.ready;
          session = advanced g.session d.clock;
          kept = kept_signed g.kept d out small e;
          grant = advanced_grant g.session d.clock ∙ g.grant;
          serves = λ i at. serves_later (advanced_next g.session d.clock) (g.serves i at);
        })
        (λ e. record {
          ready = g.ready;
          session = g.session;
          kept = record { is = e ∙ g.kept.is; sized = g.kept.sized; good = g.kept.good };
          grant = g.grant;
          serves = g.serves;
        })
        (made_or_kept d w.scanner out)

    -- another call
    other_agrees : (call : Call) → bears s.iv call ≡ false → Agree (happening s (calling call) w)
    other_agrees call e = record {
      ready = ready_left w.gate g.ready call;
      session = g.session;
      kept = g.kept;
      grant = g.grant;
      serves = λ i at. let before = stood s.iv w.gate g.ready i call e at in
          subst (λ (x : Record). Serves g.session.next x) (sym before.1) (g.serves i before.0);
    }

  module _ (before : State) (time : ℕ) (room : List ℕ) (lendable : Lendable before) (lent_bytes : LentBytes s) (ok : (set_up s before).number ≡ 0)
      (small : time < 2 ^ 32) (long : length room ≡ state_size) where
    abbrev start : World
    start = world_of s before time room

    first_agrees : Agree start
    first_agrees = record {
      ready = ready_left before (ready before lendable) (setting_up s);
      session = record { grant = grant_of s; last_time = time; next = 0 };
      kept = begun_kept s before time room lent_bytes ok small long;
      grant = refl;
      serves = λ i at. subst (λ (x : Record). Serves 0 x) (sym (session_new s before lent_bytes ok))
          (record { hash = refl; below = λ any. absurd (true≢false (sym any)) });
    }

    agrees : (events : List Event) → AllInOrder s start events → Agree (world_after s start events)
    unfolding world_after
    agrees [] h = first_agrees
    agrees (losing d out ∷ earlier) h = lost_agrees before lent_bytes ok _ (agrees earlier h.1) d out h.0
    agrees (sending d out a ∷ earlier) h = own_agrees before lent_bytes ok _ (agrees earlier h.1) d out a h.0.0 h.0.1
    agrees (calling call ∷ earlier) h = other_agrees before lent_bytes ok _ (agrees earlier h.1) call h.0

    -- THE THEOREM: every request is accepted
    pub every_accepted : (events : List Event) → AllInOrder s start events → AllTaken s start events
    every_accepted [] h = tt
    every_accepted (losing d out ∷ earlier) h = (tt, every_accepted earlier h.1)
    every_accepted (sending d out a ∷ earlier) h = (accepted before lent_bytes ok _ (agrees earlier h.1) d out a h.0.0 h.0.1, every_accepted earlier h.1)
    every_accepted (calling call ∷ earlier) h = (tt, every_accepted earlier h.1)

-- what the gate writes to a request at 10 and 13, whatever lines it came with, is believed
pub told_believed : (s : Setup) (before : State) → LentBytes s → (set_up s before).number ≡ 0 → (d : Draft) (out : List ℕ) (a : Arrival) (w : World)
    → Bytes w.scanner → (S.session_in w.scanner).grant ≡ grant_of s → d.clock < 2 ^ 32 → (signed d w.scanner out).number ≡ 0
    → let o = judged (arriving s d out a w.scanner) w.gate in
    TenOrThirteen o.number → heard (take o.length o.reply) (signed d w.scanner out).state ≡ answer 0 no_session
unfolding value_in client_request hash_of token_of opened_of iv_of fields_of new_token
told_believed s before lent_bytes ok d out a w are grant small e two =
    let k = S.session_in w.scanner in
    let passed = made d w.scanner out e in
    let kept = in_kept w.scanner are passed.is_in_session in
    let message = told (message_in k d) in
    let numbers : Small message = record { time = small; last_time = kept.sized.last_time; nonce = omega (arith, passed.left) } in
    let with_value : List ℕ → Request = λ v.
    request_of s.orders a.clock s.server_key v d.method a.head a.aside d.path d.body a.reply in
    let value = value_is d w.scanner out e ∙ ap (λ (g : Grant). Own.client_value g (message_in k d)) grant ∙ value_told s (message_in k d) in
    let hash = ap (λ (v : List ℕ). hash_of (with_value v)) value ∙ hash_is s before lent_bytes ok message a.clock a.reply numbers in
    let token = ap (λ (v : List ℕ). token_of (with_value v)) value ∙ token_is s before lent_bytes ok message a.clock a.reply numbers in
    let o = judged (arriving s d out a w.scanner) w.gate in
    let reply = ((Untouched.judge (arriving s d out a w.scanner) w.gate).invalidated two).reply in
    let text = ap (λ (n : ℕ). take n o.reply) reply.long ∙ reply.front ∙ ap₂ invalidation hash (ap (λ (t : Token). t.key) token) in
    ap (λ (v : List ℕ). heard v (signed d w.scanner out).state) (text ∙ sym (ap own_invalidation (advanced_grant k d.clock ∙ grant)))
    ∙ kept_ended (kept_signed kept d out small e)

-- Setting up a session: its checks in the parts that the stages make, what passing them says, and what a decision comes to.
-- Assumes nothing.
use mathlib.Core.Path.{◌≡◌, refl, sym, ap, subst, ◌∙◌}
use mathlib.Core.Bool.{Bool, true, false, cond, not}
use mathlib.Core.List.{List, [], ◌∷◌, ◌++◌}
use mathlib.Core.Option.{Option, none, some, get_or}
use Prim.Native.Nat.{ℕ, ◌+◌, ◌*◌, ◌≤◌}
use native.Mathlib.Omega.{arith}
use borrow.Author.Tests.{leb-true, eqb-true, ne_eqb, le-leb}
use lib.Dec.{leb}
use lib.ListN.{length, replicate, length-replicate}
use Rattle.cells.specs.Runs.{fronted}
use Rattle.hashes.specs.declared.Hash.{Hash}
use Rattle.window.specs.declared.time.Time.{Time}
use Rattle.std.specs.Prelude.{Option as Maybe, Some, None, Result, Ok, Err, MatchResult, is_some, ok_or}
use Rattle.table.specs.Table.{places, records, taken, Placed}
use Rattle.table.specs.Session.{place_of}
use Rattle.armor.specs.declared.Unread.{Unread}
use Rattle.armor.specs.InnerAnswers.{setup_from, setup_answer}
use Rattle.names.specs.declared.covered.Covered.{Covered}
use Rattle.orders.specs.Orders.{Orders, orders_good, CoveredBy, OrderedBy}
use Rattle.orders.specs.declared.Limits.{Limits}
use Rattle.orders.specs.declared.Ordered.{Ordered}
use Rattle.stages.specs.declared.refusal.Refusal.{Refusal}
use Rattle.stages.specs.declared.refusal.Refusal.TheVariants as R
use Rattle.stages.specs.InnerRefusals.{number_of, RefusedUnread}
use Rattle.armor.specs.Fields.{the, setup_fields}
use Rattle.armor.specs.Keys.{key_r}
use Rattle.armor.specs.Numerals.{mask_of}
use Rattle.armor.specs.Value.{Field, grammar, carried}
use Rattle.cells.proofs.Tests.{both}
use Rattle.stages.specs.Checks.{Check, check, first, missing}
use Rattle.stages.proofs.Checks.{none_holds, passed_by, stopped_by}
use Rattle.gate.specs.declared.setup.Offer.{Offer}
use Rattle.gate.specs.declared.lent.Lent.{Lent as LentParts}
use Rattle.gate.specs.declared.setup.Start.{Start}
use Rattle.gate.specs.InnerSizes.{SetsUp, setup_by}
use Rattle.index.specs.Index.{Indexed}
use Rattle.stages.proofs.Refusals.{small_number}
use Rattle.gate.specs.State.{State, outcome, replied}
use Rattle.gate.specs.Calls.{Setup}
use Rattle.gate.specs.Sizes.{state_fits, setup_fits}
use Rattle.gate.specs.Entry.{state_checks}
use Rattle.gate.specs.Setup.{offered, chosen_of, expiry_of, entry_part, offer_part, lasting_part, room_part, setup_checks, new_token, sealed_of, reply_of, with_session, set_up}
use Rattle.gate.specs.InnerStarts.{RefusedBy, Lasts, LastsUntil, HasRoom, Starts, StartIs, DecidesStart, start_at}
use Rattle.gate.proofs.Numbers.{Entered, indexed_by, entry_numbered, entry_passed, offer_numbered, sizes_refuse, orders_refuse, state_decides, never_zero, one_number, answer_is}

-- reading a value decides 4 and 5, and leaves its mask to 19 and 20
abbrev Told : ℕ → List Check → List Check → Result ℕ Unread → Type 0
Told mask checks later (Ok m) = (first checks ≡ first later) × (mask ≡ m)
Told mask checks later (Err e) = (refusal : Refusal) → RefusedUnread e refusal → first checks ≡ number_of refusal

told_of : (o : Option (List Field)) (later : List Check)
    → Told (mask_of (the key_r (get_or o []))) (check 4 (missing o) ∷ check 5 (not (setup_fields (get_or o []))) ∷ later) later (setup_from o)
told_of none later = λ refusal is. rw is refl
told_of (some fs) later = by (setup_fields fs)
  where
    mask : ℕ
    mask = mask_of (the key_r fs)

    by : (t : Bool) → Told mask (check 4 false ∷ check 5 (not t) ∷ later) later (cond t (Ok mask) (Err Unread.Fields))
    by true = (refl, refl)
    by false = λ refusal is. rw is refl

abbrev pub Tells : Setup → Result ℕ Unread → Type 0
Tells s r = Told (offered s) (offer_part s) (lasting_part s) r

pub tells : (s : Setup) (value : List ℕ) (r : Result ℕ Unread) → s.value ≡ value → r ≡ setup_answer value → Tells s r
unfolding setup_answer offer_part offered carried
tells s value r v e = rw (e, ← v) (told_of (grammar s.value) (lasting_part s))

pub offer_lasts : (s : Setup) (hash : Hash) (end : ℕ) (r : Result Offer Refusal) → first (offer_part s) ≡ first (lasting_part s) → Lasts (lasting_part s) hash end r
    → Lasts (offer_part s) hash end r
offer_lasts s hash end (Ok o) t u = record { none = t ∙ u.none; is = u.is; by = u.by }
offer_lasts s hash end (Err e) t u = t ∙ u

-- no hash in common
pub no_common : (t : Bool) (hash : Hash) → None ≡ cond t (Some hash) None → t ≡ false
no_common true hash e = cc
no_common false hash e = refl

pub unplaced : (place : Maybe ℕ) → is_some place ≡ false → place ≡ None
unplaced (Some p) e = cc
unplaced None e = refl

-- 17 and 18, by the places that are found and to be taken
pub room_by : (s : Setup) (table : List ℕ) → place_of table s.iv ≡ None → (o : Maybe ℕ) → Placed (taken (records table) s.clock) (places table) o
    → (r : Result ℕ Refusal) → r ≡ ok_or o R.TableFull → MatchResult r (HasRoom (room_part s table) table s.iv s.clock) (RefusedBy (room_part s table))
unfolding room_part
room_by s table new (Some p) h r e = rw e (record { none = simp (new, ← h.is); is = sym h.is; within = h.within; new = new })
room_by s table new None h r e = rw e (simp (new, ← h.is))

-- what the sizes of a setup say
pub record Lent (s : Setup) (state : State) : Type 0 where
  pub server_key : length s.server_key ≡ 32
  pub session_key : length s.session_key ≡ 32
  pub iv : length s.iv ≡ 12
  pub session_id_some : 1 ≤ length s.session_id
  pub session_id_fits : length s.session_id ≤ 64
  pub value : length s.value ≤ 4096
  pub kept : state_fits state ≡ true
  pub reply : 1024 ≤ length s.reply

pub lent : (s : Setup) (state : State) → setup_fits s state ≡ true → Lent s state
unfolding setup_fits
lent s state e =
    let server = both _ _ e in
    let session = both _ _ server.1 in
    let iv = both _ _ session.1 in
    let id = both _ _ iv.1 in
    let value = both _ _ id.1 in
    let within = both (leb 1 (length s.session_id)) _ id.0 in
    let rest = both (state_fits state) _ value.1 in
    record {
      server_key = eqb-true _ _ server.0;
      session_key = eqb-true _ _ session.0;
      iv = eqb-true _ _ iv.0;
      session_id_some = leb-true _ _ within.0;
      session_id_fits = leb-true _ _ within.1;
      value = leb-true _ _ value.0;
      kept = rest.0;
      reply = leb-true _ _ rest.1;
    }

-- and what a `Lent` holds has them, beside a table and an index that fit
pub lent_sized : (o : Orders) (clock : ℕ) (l : LentParts) (reply : List ℕ) (state : State)
    → state_fits state ≡ true → 1024 ≤ length reply → setup_fits (setup_by o clock l reply) state ≡ true
unfolding setup_fits
lent_sized o clock l reply state kept room =
    simp (l.server_key_fits, l.session_key_fits, l.iv_fits, le-leb _ _ l.some_id, le-leb _ _ l.id_fits, le-leb _ _ l.value_fits, kept, le-leb _ _ room)

-- a reply that is written, with its length in the answer
pub writes : (text reply out : List ℕ) (state : State) (len : ℕ) → len ≡ length text → out ≡ fronted text reply
    → outcome (256 * len) out state ≡ replied 0 text reply state
writes text reply out state len e f = rw (e, f) (answer_is (256 * length text) 0 (length text) (fronted text reply) state (omega arith) (omega arith))

module _ (s : Setup) (state : State) where
  -- a setup that nothing refuses passes 1, 2, 3 and 22
  pub opened : first (setup_checks s state) ≡ 0 → Entered (setup_fits s state) s.orders state
  unfolding setup_checks entry_part
  opened e = entry_passed _ _ _ (none_holds (entry_part s state) _ (entry_numbered _ _ _) e).none

  pub state_entry : setup_fits s state ≡ true → orders_good s.orders ≡ true → first (entry_part s state) ≡ first (state_checks state)
  unfolding entry_part
  state_entry = state_decides _ _ _

  pub entry_refuses : (e : Refusal) → first (entry_part s state) ≡ number_of e → RefusedBy (setup_checks s state) e
  unfolding setup_checks entry_part
  entry_refuses e f = stopped_by (entry_part s state) _ (entry_numbered _ _ _) (λ o. never_zero e (sym f ∙ o)) ∙ f

  pub bad_orders : setup_fits s state ≡ true → orders_good s.orders ≡ false → RefusedBy (setup_checks s state) R.BadOrders
  unfolding entry_part
  bad_orders e f = entry_refuses R.BadOrders (orders_refuse _ _ _ e f)

  -- after them the offer decides, and after it the room
  module _ (passed : first (entry_part s state) ≡ 0) where
    later : first (setup_checks s state) ≡ first (offer_part s ++ room_part s state.table)
    unfolding setup_checks entry_part
    later = passed_by (entry_part s state) _ (entry_numbered _ _ _) passed

    pub offer_refuses : (e : Refusal) → RefusedBy (offer_part s) e → RefusedBy (setup_checks s state) e
    offer_refuses e r = later ∙ stopped_by (offer_part s) _ (offer_numbered s) (λ z. never_zero e (sym r ∙ z)) ∙ r

    -- 17, 18 or neither, after an offer that lasts
    module _ (offered : first (offer_part s) ≡ 0) where
      pub room_refuses : (e : Refusal) → RefusedBy (room_part s state.table) e → RefusedBy (setup_checks s state) e
      room_refuses e r = later ∙ passed_by (offer_part s) _ (offer_numbered s) offered ∙ r

      pub begins : (r : Offer) (end : ℕ) → expiry_of s ≡ end → LastsUntil (offer_part s) (chosen_of s) end r → (place : ℕ) → HasRoom (room_part s state.table) state.table s.iv s.clock place
          → Starts s state (record { place = place; hash = r.hash; expiry = r.expiry })
      begins r end e l place h = record {
        none = later ∙ passed_by (offer_part s) _ (offer_numbered s) l.none ∙ h.none;
        is = h.is;
        within = h.within;
        new = h.new;
        by = l.by;
        until = l.is ∙ sym e;
      }

  -- the outcome of each decision
  pub starts : (covered : Covered) (l : LentParts) (r : Start) → CoveredBy s.orders covered → SetsUp s l → Starts s state r → start_at covered l r state.table s.reply ≡ set_up s state
  unfolding start_at set_up with_session reply_of sealed_of new_token
  starts covered l r b u h = simp (b.mask, b.extra, u.server_key, u.session_key, u.iv, u.session_id, h.by, h.until, h.none, h.is)

  pub refuses : (e : Refusal) → RefusedBy (setup_checks s state) e → outcome (number_of e) s.reply state ≡ set_up s state
  unfolding set_up
  refuses e r =
      rw (r, ne_eqb (number_of e) 0 (never_zero e))
      (answer_is _ _ 0 s.reply state (omega arith) (small_number e))

  pub sizes_set_up : setup_fits s state ≡ false → outcome 1 s.reply state ≡ set_up s state
  unfolding entry_part
  sizes_set_up e = refuses R.WrongSize (entry_refuses R.WrongSize (sizes_refuse _ _ _ e))

-- the session would last from now on for the session life
pub expires : (s : Setup) (ordered : Ordered) → OrderedBy s.orders ordered → expiry_of s ≡ s.clock + ordered.limits.session_life
unfolding expiry_of
expires s ordered by = ap (λ (l : Limits). s.clock + l.session_life) (sym by.limits)

-- two answers that `setup::decide` may give are one
pub start_determined : (s : Setup) (state : State) (a b : Result Start Refusal) → StartIs s state a → StartIs s state b → a ≡ b
start_determined s state (Ok a) (Ok b) p q =
    let there : Some a.place ≡ Some b.place = sym p.is ∙ q.is in
    let until : a.expiry ≡ b.expiry = ap (λ (t : ℕ). record { 0 = t }) (p.until ∙ sym q.until) in
    let by : a.hash ≡ b.hash = p.by ∙ sym q.by in
    let place : a.place ≡ b.place = cc in
    let same : a ≡ b =
    ap (λ (p : ℕ). record { place = p; hash = a.hash; expiry = a.expiry }) place
    ∙ ap (λ (h : Hash). record { place = b.place; hash = h; expiry = a.expiry }) by
    ∙ ap (λ (e : Time). record { place = b.place; hash = b.hash; expiry = e }) until
    in
    ap Ok same
start_determined s state (Ok a) (Err e) p q = absurd (never_zero e (sym q ∙ p.none))
start_determined s state (Err e) (Ok b) p q = absurd (never_zero e (sym p ∙ q.none))
start_determined s state (Err d) (Err e) p q = ap Err (one_number d e (sym p ∙ q))

-- a decision on what the sizes' check told of a setup is one on that setup
pub started_for : (s : Setup) (l : LentParts) → SetsUp s l → (state : State) (r : Result Start Refusal)
    → DecidesStart s.orders s.clock l state r → 1024 ≤ length s.reply → StartIs s state r
started_for s l u state r d room = subst (λ (p : Setup). StartIs p state r) the_setup (d s.reply room)
  where
    the_setup : setup_by s.orders s.clock l s.reply ≡ s
    the_setup = rw (u.server_key, u.session_key, u.iv, u.session_id, u.value)

-- so two answers that `setup::decide` may give are one, whatever the orders
pub start_decided : (o : Orders) (clock : ℕ) (l : LentParts) (state : State) (a b : Result Start Refusal)
    → DecidesStart o clock l state a → DecidesStart o clock l state b → a ≡ b
start_decided o clock l state a b p q = start_determined (setup_by o clock l long) state a b (p long enough) (q long enough)
  where
    long : List ℕ
    long = replicate 1024 0

    enough : 1024 ≤ length long
    enough = omega (arith, length-replicate {A = ℕ} 1024 0)

-- past the first checks the index fits
pub start_indexed : (s : Setup) (state : State) → setup_fits s state ≡ true → first (setup_checks s state) ≡ 0 → Indexed state.table state.index
start_indexed s state fits begun = let past = opened s state begun in indexed_by state (lent s state fits).kept past.formed past.index

-- How a decision makes up a request's number and its effect.
-- Assumes nothing.
use mathlib.Core.Path.{◌≡◌, refl, sym, ap, ap₂, subst, ◌∙◌}
use mathlib.Core.Bool.{Bool, true, false, true≢false, cond, not, ◌&&◌, ◌||◌, and-true}
use mathlib.Core.List.{List, [], ◌∷◌, ◌++◌}
use Prim.Native.Nat.{ℕ, zero, suc, ◌*◌, ◌≤◌}
use native.Mathlib.Omega.{arith}
use borrow.Author.Tests.{eq-eqb, ne_eqb, eqb-true, leb-true, le-leb}
use lib.Dec.{eqb}
use lib.ListN.{length, get_or}
use Rattle.std.specs.Prelude.{Option, Some, None, Result, Ok, Err, IfOk, is_some, unwrap_or}
use Rattle.std.specs.Bool.{then_some}
use Rattle.hashes.specs.declared.Hash.{Hash}
use Rattle.reply.specs.Replies.{invalidation}
use Rattle.cells.proofs.Tests.{both}
use Rattle.table.proofs.Found.{found_at}
use Rattle.table.proofs.Records.{length_record_bytes, length_records}
use Rattle.table.proofs.One.{one_place, one_record, one_stored, records_single, one_found}
use Rattle.table.specs.declared.session.Record.{Record}
use Rattle.table.specs.Record.{freed, record_bytes, Fits}
use Rattle.table.specs.Table.{places, records, holds, Within}
use Rattle.index.specs.Index.{index_of, Indexed}
use Rattle.index.proofs.Held.{length_index_of}
use Rattle.index.proofs.Alike.{index_same}
use Rattle.stages.specs.declared.refusal.Refusal.{Refusal}
use Rattle.stages.specs.declared.refusal.Refusal.TheVariants as R
use Rattle.stages.specs.declared.admitting.Session.{Session}
use Rattle.stages.specs.declared.settling.Decision.{Decision}
use Rattle.stages.specs.InnerRefusals.{number_of, number_in}
use Rattle.stages.specs.Request.{Request, request_of}
use Rattle.stages.specs.Checks.{Check, first, nowhere}
use Rattle.table.specs.Session.{place_of, held_at, with_record}
use Rattle.stages.specs.Parts.{iv_of, ordered, next_of, reading_part, token_part, invalidates}
use Rattle.stages.specs.InnerStages.{tells, opening_part, stored_of, StandsAt}
use Rattle.stages.proofs.Checks.{numbered, lacks, first_lacks, passed_by, stopped_by}
use Rattle.stages.proofs.Parts.{reading_numbered, reading_ten, reading_thirteen}
use Rattle.stages.proofs.Refusals.{small_number}
use Rattle.gate.specs.State.{State, holding, indexed, outcome, untouched, replied}
use Rattle.orders.specs.Orders.{Orders, orders_good}
use Rattle.gate.specs.declared.asked.Asked.{Asked}
use Rattle.gate.specs.InnerSizes.{Brings, request_by}
use Rattle.gate.specs.Sizes.{exactly, state_fits, table_fits, brought_fits, lent_fits, request_fits}
use Rattle.gate.specs.Entry.{state_checks}
use Rattle.gate.specs.Judge.{entry_part, request_checks, state_after, answered, judged}
use Rattle.gate.specs.InnerDecisions.{StandsIn, DecidesRequest, Refuses, Judges, after_entry, Decides, DecidesAs, left_at, left_by, answered_by, Keeps}
use Rattle.gate.proofs.Numbers.{Entered, indexed_by, request_stated, entry_numbered, entry_ten, entry_thirteen, entry_passed, sizes_refuse, orders_refuse, state_decides, never_zero, answer_is}

pub told : (n : ℕ) → invalidates n ≡ true → tells n ≡ true
told n e = by (eqb n 0)
  where
    by : (b : Bool) → (b || invalidates n) ≡ true
    by true = refl
    by false = e

-- the effects of 0, 10 and 13 alone need the session
tells_none : (n : ℕ) → (n ≡ 0 → ⊥) → (n ≡ 10 → ⊥) → (n ≡ 13 → ⊥) → tells n ≡ false
tells_none n z ten thirteen = simp (ne_eqb n 0 z, ne_eqb n 10 ten, ne_eqb n 13 thirteen)

-- past the first checks the index fits
pub found_indexed : (q : Request) (state : State) → Entered (request_fits q state) q.orders state → Indexed state.table state.index
found_indexed q state h = indexed_by state (request_stated q state h.sizes) h.formed h.index

-- a refusal by checks at the front, of which none is 10 or 13
stopped : (xs ys : List Check) → numbered xs ≡ true → lacks 10 xs ≡ true → lacks 13 xs ≡ true → (e : Refusal) → first xs ≡ number_of e → Refuses (xs ++ ys) e
stopped xs ys numbers ten thirteen e f =
    record {
      is = stopped_by xs ys numbers (λ o. never_zero e (sym f ∙ o)) ∙ f;
      alone = tells_none (number_of e) (never_zero e) (never 10 ten (λ o. absurd (omega arith))) (never 13 thirteen (λ o. absurd (omega arith)));
    }
  where
    never : (k : ℕ) → lacks k xs ≡ true → (k ≡ 0 → ⊥) → number_of e ≡ k → ⊥
    never k l z g = first_lacks k xs z l (f ∙ g)

-- checks that are passed decide nothing
passed_over : (xs ys : List Check) → numbered xs ≡ true → first xs ≡ 0 → (e : Refusal) → Refuses ys e → Refuses (xs ++ ys) e
passed_over xs ys numbers z e r = record { is = passed_by xs ys numbers z ∙ r.is; alone = r.alone }

module _ (q : Request) (table : List ℕ) where
  pub unread : (e : Refusal) → first (reading_part q) ≡ number_of e → Refuses (after_entry q table) e
  unread = stopped (reading_part q) _ (reading_numbered q) (reading_ten q) (reading_thirteen q)

  -- 9
  pub unopened : (e : Refusal) → first (reading_part q) ≡ 0 → first (opening_part q) ≡ number_of e → Refuses (after_entry q table) e
  unfolding token_part
  unopened e read f = passed_over (reading_part q) _ (reading_numbered q) read e (stopped (opening_part q) _ refl refl refl e f)

module _ (q : Request) (state : State) where
  pub unentered : (e : Refusal) → first (entry_part q state) ≡ number_of e → Refuses (request_checks q state) e
  unfolding request_checks entry_part
  unentered = stopped (entry_part q state) _ (entry_numbered _ _ _) (entry_ten _ _ _) (entry_thirteen _ _ _)

  -- past the first checks the later stages decide
  module _ (entered : first (entry_part q state) ≡ 0) where
    past : Entered (request_fits q state) q.orders state
    unfolding entry_part
    past = entry_passed _ _ _ entered

    pub decided_by : 1024 ≤ length q.reply → Within (places state.table) (place_of state.table (iv_of q))
        → (r : Result Decision Refusal) → Judges q state.table r → Decides q state r
    unfolding request_checks entry_part
    decided_by room within (Ok d) j = record {
      is = j.1.is ∙ sym (passed_by (entry_part q state) _ (entry_numbered _ _ _) entered ∙ passed_by (reading_part q) _ (reading_numbered q) j.0);
      knows = j.1.knows;
      room = room;
      at = j.1.at;
      within = subst (Within (places state.table)) (sym j.1.at) within;
      indexed = found_indexed q state past;
      next = j.1.next;
    }
    decided_by room within (Err e) j = passed_over (entry_part q state) _ (entry_numbered _ _ _) entered e j

-- a table of one record: its size is right, and its session stands at the first place or nowhere
module _ (r : Record) (f : Fits r) where
  pub one_sizes : (q : Request) → request_fits q (indexed (record_bytes r)) ≡ lent_fits q
  unfolding request_fits state_fits table_fits
  one_sizes q =
      rw (length_record_bytes r f.iv, eq-eqb _ _ one_index) (and-true (lent_fits q))
    where
      one_index : length (index_of (records (record_bytes r))) ≡ 2 * 1
      one_index = length_index_of (records (record_bytes r)) ∙ ap (λ (n : ℕ). 2 * n) (length_records (record_bytes r) ∙ one_place r f)

  pub one_within : (iv : List ℕ) → Within (places (record_bytes r)) (place_of (record_bytes r) iv)
  one_within iv = rw (one_place r f, one_found r f iv) (by (holds iv r))
    where
      by : (t : Bool) → Within 1 (cond t (Some 0) None)
      by true = omega arith
      by false = tt

  pub one_held : (iv : List ℕ) (place : Option ℕ) → place ≡ place_of (record_bytes r) iv → nowhere place ≡ false → held_at (record_bytes r) place ≡ r
  one_held iv place e there =
      ap (held_at (record_bytes r)) (e ∙ one_found r f iv) ∙ by (holds iv r) (ap nowhere (sym (e ∙ one_found r f iv)) ∙ there)
    where
      by : (t : Bool) → nowhere (cond t (Some 0) None) ≡ false → held_at (record_bytes r) (cond t (Some 0) None) ≡ r
      by true z = one_record r f
      by false z = absurd (true≢false z)

-- what is left beside an index that fits it
pub left_indexed : {table after index : List ℕ} → after ≡ table → Indexed after index → holding after index ≡ indexed table
left_indexed e h = ap₂ holding e (h.fits ∙ ap (λ (t : List ℕ). index_of (records t)) e)

-- records with one mark and one IV have one index
pub one_index : (r next : Record) → Fits r → Fits next → next.used ≡ r.used → next.iv ≡ r.iv → index_of (records (record_bytes next)) ≡ index_of (records (record_bytes r))
one_index r next f g used iv =
    ap index_of (records_single next g) ∙ index_same (next ∷ []) (r ∷ []) refl marks ivs ∙ ap index_of (sym (records_single r f))
  where
    marks : (p : ℕ) → (get_or (next ∷ []) p freed).used ≡ (get_or (r ∷ []) p freed).used
    marks zero = used
    marks (suc p) = refl

    ivs : (p : ℕ) → (get_or (next ∷ []) p freed).iv ≡ (get_or (r ∷ []) p freed).iv
    ivs zero = iv
    ivs (suc p) = refl

-- the effect, number by number
pub not_zero : (n : ℕ) → invalidates n ≡ true → eqb n 0 ≡ false
not_zero n e = by (eqb n 0) refl
  where
    by : (t : Bool) → eqb n 0 ≡ t → t ≡ false
    by true z = absurd (true≢false (sym e ∙ ap invalidates (eqb-true n 0 z)))
    by false z = refl

module _ (n : ℕ) (id key : List ℕ) (hash : Hash) (reply : List ℕ) (state : State) where
  pub answered_zero : n ≡ 0 → answered n id key hash reply state ≡ replied 0 id reply state
  unfolding answered
  answered_zero e = rw e

  pub answered_freed : invalidates n ≡ true → answered n id key hash reply state ≡ replied n (invalidation hash key) reply state
  unfolding answered
  answered_freed e = rw (not_zero n e, e)

  pub answered_kept : (n ≡ 0 → ⊥) → invalidates n ≡ false → answered n id key hash reply state ≡ untouched n reply state
  unfolding answered
  answered_kept z u = rw (ne_eqb n 0 z, u)

pub is_there : (place : Option ℕ) → nowhere place ≡ not (is_some place)
is_there (Some p) = refl
is_there None = refl

-- a decision over one record: its place is the first, and an accepted request leaves the record used and its IV as it is
pub one_kept : (q : Request) (r : Record) (f : Fits r) (d : Decision) → DecidesAs q (indexed (record_bytes r)) d → Keeps d r
unfolding next_of
one_kept q r f d h = record {
  within = rw (one_place r f) at h.within;
  next = λ next there z.
      let held = one_held r f (iv_of q) (place_of (record_bytes r) (iv_of q)) refl (ap nowhere (sym h.at) ∙ there) in
      let is : next ≡ next_of q (record_bytes r) = stored_next (ordered q) _ next (rw z at h.next) in
      (ap (λ (x : Record). x.used) is ∙ ap (λ (x : Record). x.used) held, ap (λ (x : Record). x.iv) is ∙ ap (λ (x : Record). x.iv) held);
}
  where
    stored_next : (o : Bool) (r next : Record) → Some next ≡ cond o (Some r) None → next ≡ r
    stored_next true r next e = cc
    stored_next false r next e = cc

-- the effect of a decision is that of its request
module _ (q : Request) (state : State) (d : Decision) (h : DecidesAs q state d) where
  left_same : left_by d state ≡ state_after (number_in d.outcome) (ordered q) (place_of state.table (iv_of q)) (next_of q state.table) state
  unfolding state_after
  left_same = rw (← h.at) (by d.outcome h.next)
    where
      stored : (o : Bool) (r : Record) (next : Option Record) → next ≡ cond o (Some r) None
          → left_at (Ok next) d.place state ≡ cond o (holding (with_record state.table d.place r) state.index) state
      stored true r next e = rw e
      stored false r next e = rw e

      by : (o : Result (Option Record) Refusal) → IfOk o (λ next. next ≡ stored_of q state.table)
          → left_at o d.place state ≡ cond (eqb (number_in o) 0) (cond (ordered q) (holding (with_record state.table d.place (next_of q state.table)) state.index) state)
          (cond (invalidates (number_in o)) (indexed (with_record state.table d.place freed)) state)
      by (Ok next) e = stored (ordered q) _ next e
      by (Err e) u = rw (ne_eqb (number_of e) 0 (never_zero e))

  pub applied_judged : answered_by d q.reply (left_by d state) ≡ judged q state
  unfolding judged
  applied_judged = rw (left_same, h.is, h.knows.token.id, h.knows.token.key, h.knows.hash)

-- a refusal touches nothing
pub refused_judged : (q : Request) (state : State) (e : Refusal) → Refuses (request_checks q state) e → outcome (number_of e) q.reply state ≡ judged q state
unfolding judged answered state_after
refused_judged q state e r =
    let alone = neither (eqb (number_of e) 0) (invalidates (number_of e)) r.alone in
    answer_is _ _ 0 _ _ (omega arith) (small_number e) ∙ sym (rw (r.is, alone.0, alone.1) refl)
  where
    neither : (t u : Bool) → (t || u) ≡ false → (t ≡ false) × (u ≡ false)
    neither true u z = absurd (true≢false z)
    neither false u z = (refl, z)

-- check 1, check 2, and the sessions that the twins find
module _ (q : Request) (state : State) where
  pub state_entry : request_fits q state ≡ true → orders_good q.orders ≡ true → first (entry_part q state) ≡ first (state_checks state)
  unfolding entry_part
  state_entry = state_decides _ _ _

  pub sizes_judged : request_fits q state ≡ false → outcome 1 q.reply state ≡ judged q state
  unfolding entry_part
  sizes_judged e = refused_judged q state R.WrongSize (unentered q state _ (sizes_refuse _ _ _ e))

  pub bad_orders : request_fits q state ≡ true → orders_good q.orders ≡ false → Refuses (request_checks q state) R.BadOrders
  unfolding entry_part
  bad_orders e f = unentered q state _ (orders_refuse _ _ _ e f)

  pub reply_room : request_fits q state ≡ true → 1024 ≤ length q.reply
  unfolding request_fits lent_fits
  reply_room e =
      leb-true _ _ (both (brought_fits q) _ (both (exactly 32 q.server_key) _ (both (lent_fits q) (state_fits state) e).0).1).1

-- what an `Asked` brings has the sizes of check 1, beside a key that has its own and room for the reply
pub asked_fits : (o : Orders) (clock : ℕ) (server_key : List ℕ) (a : Asked) (reply : List ℕ)
    → length server_key ≡ 32 → 1024 ≤ length reply → lent_fits (request_by o clock server_key a reply) ≡ true
unfolding lent_fits brought_fits
asked_fits o clock server_key a reply key room =
    let b = a.brought in
    simp (
      key,
      le-leb _ _ a.value_fits,
      le-leb _ _ a.some_method,
      le-leb _ _ b.method_fits,
      le-leb _ _ b.lines.head_fits,
      le-leb _ _ b.lines.aside_fits,
      le-leb _ _ a.some_path,
      le-leb _ _ b.path_fits,
      le-leb _ _ b.body_fits,
      le-leb _ _ room,
    )

-- sizes that are not those of check 1
and_false : (b : Bool) → (b && false) ≡ false
and_false true = refl
and_false false = refl

module _ (q : Request) (state : State) where
  pub request_sized : lent_fits q ≡ true → state_fits state ≡ true → request_fits q state ≡ true
  unfolding request_fits
  request_sized e f = rw (e, f)

  pub lent_unsized : lent_fits q ≡ false → request_fits q state ≡ false
  unfolding request_fits
  lent_unsized e = rw e

  pub state_unsized : state_fits state ≡ false → request_fits q state ≡ false
  unfolding request_fits
  state_unsized e = rw e (and_false (lent_fits q))

-- a decision on what the sizes' check told of a request is one on that request
module _ (o : Orders) (clock : ℕ) (key value method head aside path body reply server_key : List ℕ) (a : Asked)
    (same : server_key ≡ key) (brings : Brings value method head aside path body a) where
  abbrev asked_for : Request
  asked_for = request_of o clock key value method head aside path body reply

  pub the_request : request_by o clock server_key a reply ≡ asked_for
  the_request = rw (same, brings.value, brings.method, brings.head, brings.aside, brings.path, brings.body)

  pub decided_for : (state : State) (r : Result Decision Refusal) → DecidesRequest o clock server_key a state r → 1024 ≤ length reply → Decides asked_for state r
  decided_for state r d room = subst (λ (q : Request). Decides q state r) the_request (d reply room)

pub stands : (q : Request) (table iv : List ℕ) (session : Option Session) → iv ≡ iv_of q → StandsIn table iv session → StandsAt q table session
stands q table iv (Some s) e h = rw (← e) h
stands q table iv None e h = rw (← e) h

-- a session that is found stands within its table
pub found_within : (table iv : List ℕ) → Within (places table) (place_of table iv)
found_within table iv = by (place_of table iv) refl
  where
    by : (p : Option ℕ) → place_of table iv ≡ p → Within (places table) p
    by (Some i) e = rw (← length_records table) (found_at (records table) iv i e).0
    by None e = tt

-- what becomes of the one record of a table
module _ (d : Decision) (r : Record) (f : Fits r) (h : Keeps d r) (there : nowhere d.place ≡ false) where
  stored : (place : Option ℕ) (next : Record) → Within 1 place → nowhere place ≡ false → length next.iv ≡ 12
      → record_bytes next ≡ with_record (record_bytes r) place next
  stored (Some zero) next w t g = sym (one_stored r next f.iv g)
  stored (Some (suc k)) next w t g = absurd (omega arith)
  stored None next w t g = absurd (true≢false t)

  pub one_left : (next : Record) → Fits next → d.outcome ≡ Ok (Some next) → indexed (record_bytes next) ≡ left_by d (indexed (record_bytes r))
  one_left next g z =
      let kept = h.next next there z in
      rw z (ap₂ holding (stored d.place next h.within there g.iv) (one_index r next f g kept.0 kept.1))

  pub one_goes_on : (next : Option Record) (after : Record) → after ≡ unwrap_or next r → Fits after → d.outcome ≡ Ok next
      → indexed (record_bytes after) ≡ left_by d (indexed (record_bytes r))
  one_goes_on (Some next) after e g z = rw e (one_left next (rw e at g) z)
  one_goes_on None after e g z = rw (e, z) refl

  pub one_freed : (e : Refusal) → invalidates (number_of e) ≡ true → d.outcome ≡ Err e → indexed (record_bytes freed) ≡ left_by d (indexed (record_bytes r))
  one_freed e u z = rw (z, u) (ap indexed (stored d.place freed h.within there refl))

-- the session of an IV, if it is that record's
pub one_stands : (r : Record) (f : Fits r) (iv : List ℕ) (own : Bool) (session : Option Session) → own ≡ holds iv r
    → session ≡ then_some own (record { place = 0; «record» = r }) → StandsIn (record_bytes r) iv session
one_stands r f iv true session o e = rw e (rw (one_found r f iv, ← o), one_record r f)
one_stands r f iv false session o e = rw e (rw (one_found r f iv, ← o))

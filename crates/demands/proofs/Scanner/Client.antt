-- A scanner's value is that of a client of Client's, made from the same reply; and what of it is needed here, on any table that calls may be lent.
-- Assumes nothing.
use mathlib.Core.Path.{◌≡◌, refl, sym, ap, ◌∙◌}
use mathlib.Core.Bool.{cond, not}
use mathlib.Core.List.{List}
use mathlib.Core.Option.{some}
use Prim.Native.Nat.{ℕ, ◌<◌, ◌^◌}
use native.Mathlib.Omega.{arith}
use borrow.Author.Tests.{eq-eqb}
use Rattle.cells.specs.Runs.{same}
use Rattle.cells.specs.Spans.{all}
use Rattle.cells.specs.Text.{codes}
use Rattle.cells.proofs.Tests.{tested, both}
use Rattle.hashes.specs.Hashes.{hash_mask, named}
use Rattle.hashes.proofs.Hashes.{mask_named, mask_small}
use Rattle.hmac.proofs.Output.{length_hmac, bytes_hmac}
use Rattle.armor.specs.Numerals.{mask_of}
use Rattle.armor.specs.Keys.{keys, rank_of, key_number, rule_at, rule_of, key_s, key_h, key_iv, key_tag}
use Rattle.armor.specs.Value.{Field, joined, texts_of, grammar}
use Rattle.armor.specs.Fields.{contents, the}
use Rattle.armor.proofs.Numerals.{mask_of_mask_bytes}
use Rattle.armor.proofs.Scan.{carried_is}
use Rattle.window.specs.Window.{number_of, step_of}
use Rattle.table.specs.declared.session.Record.{Record}
use Rattle.table.specs.Record.{begun, window_of}
use Rattle.table.specs.Table.{records, is_used}
use Rattle.table.specs.Session.{place_of, held_at}
use Rattle.table.specs.WellFormed.{WellFormed}
use Rattle.table.proofs.Meaning.{well_formed_is, is_well_formed}
use Rattle.signed.specs.SignedText.{orders_nonce}
use Rattle.token.specs.Token.{the_token}
use Rattle.reply.specs.Replies.{order_fields, reply_fields}
use Rattle.scanner.specs.Requests as Own
use Rattle.stages.specs.Request.{Request}
use Rattle.stages.specs.Checks.{first, nowhere}
use Rattle.stages.specs.Parts.{fields_of, iv_of, hash_of, keeps_hash, nonce_of, opened_of, token_of, stepped, session_part, nonce_part}
use Rattle.stages.proofs.Checks.{passed_at}
use Rattle.stages.proofs.Parts.{session_numbered}
use Rattle.gate.specs.Calls.{Setup}
use Rattle.gate.specs.State.{State}
use Rattle.gate.specs.Sizes.{state_fits, lent_fits, request_fits}
use Rattle.gate.specs.Entry.{state_checks, entry_checks}
use Rattle.gate.specs.Setup.{chosen_of, expiry_of, setup_checks, new_token, sealed_of, reply_of, set_up}
use Rattle.gate.specs.Judge.{entry_part, judged}
use Rattle.gate.proofs.Numbers.{entry_passed}
use Rattle.gate.proofs.Starting.{opened}
use Rattle.demands.specs.Tables.{SessionAt}
use Rattle.demands.specs.Effects.{Begun}
use Rattle.demands.specs.Passing.{PassesOthers}
use Rattle.demands.specs.Client.{Message, client_text, client_code, client_fields, client_request, LentBytes, Fair}
use Rattle.demands.specs.Struck.{session_in}
use Rattle.demands.specs.Scanner.{grant_of}
use Rattle.demands.proofs.Shared.Answers.{set_up_number, set_up_table, judged_number_lem}
use Rattle.demands.proofs.Shared.Checks.{vouched_decides, nonce_decides}
use Rattle.demands.proofs.Shared.Passed.{setup_takes}
use Rattle.demands.proofs.Shared.Others.{Parts, parts, passes_window}
use Rattle.demands.proofs.Shared.Named.{session_found}
use Rattle.demands.proofs.Shared.Indexes.{right_same, begun_well}
use Rattle.demands.proofs.Untouched as Untouched
use Rattle.demands.proofs.Struck.Kept.{Ready}
use Rattle.demands.proofs.Struck.Compared.{unused}
use Rattle.demands.proofs.Client.{client_passes, client_nonce}
use Rattle.demands.proofs.Client.Fields.{plain, AllGood, read_back, numeral_good, code_good, nonce_good, both_good}
use Rattle.demands.proofs.Client.Replies.{reply_good, setup_writes, setup_opens}

-- a scanner's message, as Client has it
abbrev pub told : Own.Message → Message
told m = record {
  method = m.method;
  head = m.head;
  aside = m.aside;
  path = m.path;
  body = m.body;
  time = m.time;
  last_time = m.last_time;
  nonce = m.nonce;
}

abbrev pub client_value : Setup → Message → List ℕ
client_value s m = joined (texts_of (client_fields s m))

-- its value is the same
pub value_told : (s : Setup) (m : Own.Message) → Own.client_value (grant_of s) m ≡ client_value s (told m)
unfolding Own.client_value Own.client_fields Own.client_code client_fields client_code
value_told s m = refl

-- numbers that a value can name
pub record Small (m : Message) : Type 0 where
  pub time : m.time < 2 ^ 32
  pub last_time : m.last_time < 2 ^ 32
  pub nonce : m.nonce < 2 ^ 32

-- after a setup that was answered 0
module _ (s : Setup) (state : State) (lent_bytes : LentBytes s) (ok : (set_up s state).number ≡ 0) where
  done : first (setup_checks s state) ≡ 0
  done = sym (set_up_number s state) ∙ ok

  -- the reply's fields keep their keys' rules
  good : AllGood (reply_fields (sealed_of s).cipher s.iv (sealed_of s).tag s.session_key (chosen_of s) s.orders.numbers.mask s.orders.extra)
  unfolding setup_writes
  good = reply_good (reply_of s) (setup_writes s state done lent_bytes (reply_of s) refl)

  -- a message from it, in time or not
  module _ (m : Message) (clock : ℕ) (reply : List ℕ) (small : Small m) where
    abbrev q : Request
    q = client_request s m clock reply

    fields_good : AllGood (client_fields s m)
    unfolding client_fields client_code reply_fields plain codes all rule_of rule_at key_number rank_of keys same
    fields_good =
        let hash = chosen_of s in
        let text = client_text s m in
        let code = code_good hash (client_code s m) (length_hmac hash s.session_key text) (bytes_hmac hash s.session_key text) in
        let time = numeral_good (codes "t") m.time refl refl small.time in
        let last = numeral_good (codes "lt") m.last_time refl refl small.last_time in
        let nonce = nonce_good (orders_nonce s.orders.numbers.mask) m.nonce small.nonce in
        let later = both_good (order_fields hash s.orders.numbers.mask s.orders.extra) _ good.1.1.1.1 nonce in
        (good.0, (code, (time, (last, (good.1.0, (good.1.1.0, later))))))

    -- its value is read back
    kept : grammar q.value ≡ some (client_fields s m)
    unfolding client_request client_fields
    kept = read_back _ _ fields_good

    fields_are : fields_of q ≡ client_fields s m
    unfolding fields_of
    fields_are = carried_is q.value (client_fields s m) kept

    pub hash_is : hash_of q ≡ chosen_of s
    unfolding hash_of client_fields the contents key_number rank_of keys codes same
    hash_is =
        let hash = chosen_of s in
        ap (λ (fs : List Field). named (mask_of (the key_h fs))) fields_are
        ∙ ap named (mask_of_mask_bytes (hash_mask hash) (omega (arith, mask_small hash)))
        ∙ mask_named hash

    -- and its token opens
    pub iv_is : iv_of q ≡ s.iv
    unfolding iv_of client_fields the contents key_number rank_of keys codes same
    iv_is = ap (the key_iv) fields_are

    cipher_is : the key_s (fields_of q) ≡ (sealed_of s).cipher
    unfolding client_fields the contents key_number rank_of keys codes same
    cipher_is = ap (the key_s) fields_are

    tag_is : the key_tag (fields_of q) ≡ (sealed_of s).tag
    unfolding client_fields the contents key_number rank_of keys codes same
    tag_is = ap (the key_tag) fields_are

    opens : opened_of q ≡ some (new_token s)
    unfolding opened_of client_request
    opens = rw (iv_is, cipher_is, tag_is) (setup_opens s state done)

    pub token_is : token_of q ≡ new_token s
    unfolding token_of
    token_is = ap the_token opens

  -- a fair one, on any table that calls may be lent: its session's record decides
  module _ (m : Message) (clock : ℕ) (reply : List ℕ) (fair : Fair s m clock reply) where
    small : Small m
    small = record { time = fair.time_fits; last_time = fair.last_time_fits; nonce = fair.nonce_fits }

    abbrev sent : Request
    sent = client_request s m clock reply

    at_home : Parts sent (set_up s state).state
    at_home = parts sent _ (client_passes s state m clock reply lent_bytes ok fair).0

    pub iv_fair : iv_of sent ≡ s.iv
    iv_fair = iv_is m clock reply small

    module _ (later : State) (ready : Ready later) (r : Record) (is : session_in s.iv later.table ≡ r) (used : r.used ≡ 1)
        (hash : r.hash ≡ hash_mask (chosen_of s)) where
      entered : first (entry_part sent later) ≡ 0
      unfolding entry_part entry_checks state_checks request_fits
      entered =
          let home = entry_passed _ _ _ at_home.entry in
          let lent = (both (lent_fits sent) (state_fits (set_up s state).state) home.sizes).0 in
          rw (lent, ready.sizes, home.orders, is_well_formed _ ready.well, right_same later ready.index) refl

      own_is : session_in (iv_of sent) later.table ≡ r
      own_is = ap (λ (iv : List ℕ). session_in iv later.table) iv_fair ∙ is

      found_by : nowhere (place_of later.table (iv_of sent)) ≡ not (is_used r)
      found_by = unused (iv_of sent) later.table ∙ ap (λ (x : Record). not (is_used x)) own_is

      session_none : first (session_part sent later.table) ≡ 0
      unfolding session_part keeps_hash
      session_none =
          let table = (set_up s state).state.table in
          let past = passed_at (session_part sent table) (session_numbered sent table) at_home.session in
          rw (
            found_by ∙ ap not (eq-eqb r.used 1 used),
            ap (λ (x : Record). x.hash) own_is ∙ hash,
            hash_is m clock reply small,
            eq-eqb (hash_mask (chosen_of s)) (hash_mask (chosen_of s)) refl,
            past 13,
            past 14,
            past 21,
          ) refl

      passes : PassesOthers sent later
      passes = vouched_decides sent later (session_part sent later.table) entered at_home.reading at_home.vouching ∙ session_none

      -- by its window, where nonces are ordered
      pub served : (judged sent later).number ≡ cond (orders_nonce s.orders.numbers.mask) (number_of (step_of (window_of r) m.nonce).verdict) 0
      unfolding nonce_part stepped client_request
      served =
          judged_number_lem sent later
          ∙ tested (orders_nonce s.orders.numbers.mask)
          (λ o. passes_window sent later passes o
          ∙ ap (λ (x : Record). number_of (step_of (window_of x) (nonce_of sent)).verdict) own_is
          ∙ rw (client_nonce s state m clock reply lent_bytes ok fair o, o) refl)
          (λ o. nonce_decides sent later passes ∙ rw o refl)

  -- the session right after it
  begins : Begun s state (set_up s state)
  begins = (Untouched.setup s state).passed ok

  well_after : WellFormed (records (set_up s state).state.table)
  well_after =
      let before = well_formed_is (records state.table) (opened s state done).formed in
      rw (set_up_table s state, done) (begun_well s state (setup_takes s state done) before)

  there : SessionAt (set_up s state).state.table s.iv begins.place
  there = record {
    within = omega (arith, begins.session.as_long, begins.session.within);
    used = ap (λ (r : Record). r.used) begins.session.here;
    iv = ap (λ (r : Record). r.iv) begins.session.here;
  }

  pub session_new : session_in s.iv (set_up s state).state.table ≡ begun s.iv (expiry_of s) (hash_mask (chosen_of s))
  session_new =
      let table = (set_up s state).state.table in ap (held_at table) (session_found table s.iv begins.place well_after there) ∙ begins.session.here

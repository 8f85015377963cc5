-- A client that makes its request from the reply to its setup is accepted, whatever the keys and the texts: what History and Agreement ask of
-- a request can be met after every setup that is answered 0, with no cipher computed.
-- Assumes nothing.
pub mod Fields
pub mod Replies
use mathlib.Core.Path.{◌≡◌, refl, sym, ap, ◌∙◌}
use mathlib.Core.Bool.{Bool, true, false, cond, and-false}
use mathlib.Core.List.{List, [], ◌∷◌, ◌++◌}
use mathlib.Core.Option.{some}
use Prim.Native.Nat.{ℕ, zero, suc, ◌*◌, ◌%◌, ◌<◌, ◌≤◌}
use native.Mathlib.Nat.{mod-lt}
use native.Mathlib.Omega.{arith}
use borrow.Author.Tests.{eq-eqb, le-leb, lt-leb, le-ltb, ltb-true}
use lib.Dec.{eqb, leb, ltb}
use lib.ListN.{length, set, length-set}
use Rattle.cells.specs.Runs.{same, spliced}
use Rattle.cells.specs.Spans.{all}
use Rattle.cells.specs.Text.{codes}
use Rattle.cells.specs.Numbers.{number}
use Rattle.cells.proofs.Equality.{same_self}
use Rattle.cells.proofs.Tests.{both}
use Rattle.hashes.specs.declared.Hash.{Hash}
use Rattle.hashes.specs.Hashes.{hash_mask, digest_size, named}
use Rattle.hashes.proofs.Hashes.{mask_named, mask_small, allowed_mask, chosen_common}
use Rattle.hmac.proofs.Output.{length_hmac, bytes_hmac}
use Rattle.armor.specs.Numerals.{number_bytes, mask_bytes, mask_of}
use Rattle.armor.specs.Keys.{keys, rank_of, key_number, rule_at, rule_of, key_s, key_c, key_t, key_lt, key_n, key_h, key_iv, key_tag}
use Rattle.armor.specs.Value.{Field, joined, texts_of, grammar}
use Rattle.armor.specs.Fields.{contents, times, the, right_times, nonce_bit, request_fields}
use Rattle.armor.proofs.Numerals.{number_number_bytes, mask_of_mask_bytes}
use Rattle.armor.proofs.Scan.{carried_is}
use Rattle.coverage.specs.Coverage.{extra_as_ordered, as_ordered}
use Rattle.names.specs.Names.{is_token}
use Rattle.orders.proofs.Orders.{good_mask}
use Rattle.window.specs.declared.Verdict.TheVariants.{Accepted}
use Rattle.window.specs.Time.{exceeds, most_ahead}
use Rattle.window.specs.Window.{step_of}
use Rattle.window.proofs.Times.{exceeds_sum}
use Rattle.table.specs.declared.session.Record.{Record}
use Rattle.std.specs.Prelude.{Some}
use Rattle.table.specs.Record as R
use Rattle.table.specs.Record.{record_bytes, begun}
use Rattle.table.specs.Table.{places, record_at, records}
use Rattle.table.specs.Session.{place_of}
use Rattle.table.specs.WellFormed.{WellFormed}
use Rattle.table.proofs.Records.{length_records, records_stored}
use Rattle.table.proofs.Found.{at_found}
use Rattle.table.proofs.Meaning.{well_formed_is, is_well_formed}
use Rattle.table.proofs.Stored.{stored_here, stored_well, alone_new}
use Rattle.table.proofs.Sessions.{begun_sound, begun_fits}
use Rattle.signed.specs.SignedText as Signed
use Rattle.signed.specs.SignedText.{orders_nonce, signed_of, request_text}
use Rattle.token.specs.Token.{Token, the_token}
use Rattle.reply.specs.Replies.{order_fields, reply_fields}
use Rattle.stages.specs.Request.{Request}
use Rattle.stages.specs.Checks.{first}
use Rattle.stages.specs.Parts.{fields_of, iv_of, hash_of, keeps_hash, nonce_of, time_of, last_time_of, signature_of, opened_of, token_of, limits, text_of, code_of, twice, ordered, stepped, reading_part, covering_part, token_part, signature_part, vouching_part, session_part, nonce_part, admitting_part}
use Rattle.stages.proofs.Checks.{passed_by}
use Rattle.stages.proofs.Parts.{session_numbered}
use Rattle.gate.specs.Calls.{Setup}
use Rattle.gate.specs.State.{State}
use Rattle.gate.specs.Sizes.{exactly, setup_fits, table_fits, state_fits, brought_fits, lent_fits, request_fits}
use Rattle.gate.specs.Entry.{state_checks, entry_checks}
use Rattle.gate.specs.Setup.{offered, chosen_of, expiry_of, setup_checks, new_token, sealed_of, reply_of, set_up}
use Rattle.gate.specs.Judge.{entry_part, request_checks, judged}
use Rattle.gate.proofs.Numbers.{Entered}
use Rattle.gate.proofs.Starting.{Lent, lent, opened}
use Rattle.demands.specs.Tables.{Replaced}
use Rattle.demands.specs.Passing.{PassesOthers, Reaches}
use Rattle.demands.specs.Client.{Message, nonce_field, client_text, client_code, main_fields, client_fields, client_request, LentBytes, Fair}
use Rattle.demands.proofs.Shared.Stored.{replaced, taken_within}
use Rattle.demands.proofs.Shared.Checks.{vouched_decides, accepted_passes, accepted_reaches}
use Rattle.index.specs.Index.{index_of}
use Rattle.index.proofs.Held.{length_index_of}
use Rattle.demands.proofs.Shared.Answers.{set_up_number, set_up_table, set_up_index, begun_table, judged_number_lem}
use Rattle.demands.proofs.Shared.Passed.{Takes, setup_takes}
use Rattle.demands.proofs.Client.Fields.{plain, AllGood, read_back, joined_short, numeral_good, code_good, nonce_good, both_good}
use Rattle.demands.proofs.Client.Replies.{reply_good, text_read, setup_writes, setup_opens}

-- what its fields hold, with n or without and with eah or without
record Reads (o : Bool) (n : ℕ) (run : List ℕ) (fs : List Field) : Type 0 where
  right : right_times (λ k. times k fs) ≡ true
  nonces : times key_n fs ≡ cond o 1 0
  nonce : the key_n fs ≡ cond o (number_bytes n) []
  covers : extra_as_ordered run fs ≡ true
  few : length fs ≤ 10

-- after a setup that was answered 0
module _ (s : Setup) (state : State) (done : first (setup_checks s state) ≡ 0) (lent_bytes : LentBytes s) where
  abbrev mask : ℕ
  mask = s.orders.numbers.mask

  abbrev extra : List ℕ
  extra = s.orders.extra

  entered : Entered (setup_fits s state) s.orders state
  entered = opened s state done

  size : Lent s state
  size = lent s state entered.sizes

  takes : Takes s state
  takes = setup_takes s state done

  abbrev hash : Hash
  hash = chosen_of s

  -- the reply's fields keep their keys' rules
  good : AllGood (reply_fields (sealed_of s).cipher s.iv (sealed_of s).tag s.session_key hash mask extra)
  unfolding setup_writes
  good = reply_good (reply_of s) (setup_writes s state done lent_bytes (reply_of s) refl)

  -- and are read back
  reply_fields_lem : grammar (reply_of s) ≡ some (reply_fields (sealed_of s).cipher s.iv (sealed_of s).tag s.session_key hash mask extra)
  unfolding setup_writes
  reply_fields_lem = text_read (reply_of s) (setup_writes s state done lent_bytes (reply_of s) refl)

  -- a message from it
  module _ (m : Message) (clock : ℕ) (reply : List ℕ) (fair : Fair s m clock reply) where
    abbrev q : Request
    q = client_request s m clock reply

    fields_good : AllGood (client_fields s m)
    unfolding client_fields client_code reply_fields plain codes all rule_of rule_at key_number rank_of keys same
    fields_good =
        let code = code_good hash (client_code s m) (length_hmac hash s.session_key (client_text s m)) (bytes_hmac hash s.session_key (client_text s m)) in
        let time = numeral_good (codes "t") m.time refl refl fair.time_fits in
        let last = numeral_good (codes "lt") m.last_time refl refl fair.last_time_fits in
        let later = both_good (order_fields hash mask extra) _ good.1.1.1.1 (nonce_good (orders_nonce mask) m.nonce fair.nonce_fits) in
        (good.0, (code, (time, (last, (good.1.0, (good.1.1.0, later))))))

    -- its value is read back
    kept : grammar q.value ≡ some (client_fields s m)
    unfolding client_request client_fields
    kept = read_back _ _ fields_good

    fields_are : fields_of q ≡ client_fields s m
    unfolding fields_of
    fields_are = carried_is q.value (client_fields s m) kept

    read_with : (o : Bool) (run : List ℕ) → Reads o m.nonce run (main_fields s m ++ (order_fields hash mask run ++ nonce_field o m.nonce))
    unfolding contents times the right_times key_number rank_of keys codes same
    read_with true [] = record { right = refl; nonces = refl; nonce = refl; covers = refl; few = omega arith }
    read_with false [] = record { right = refl; nonces = refl; nonce = refl; covers = refl; few = omega arith }
    read_with true (b ∷ bs) = record { right = refl; nonces = refl; nonce = refl; covers = same_self (b ∷ bs); few = omega arith }
    read_with false (b ∷ bs) = record { right = refl; nonces = refl; nonce = refl; covers = same_self (b ∷ bs); few = omega arith }

    read : Reads (orders_nonce mask) m.nonce extra (client_fields s m)
    unfolding client_fields
    read = read_with (orders_nonce mask) extra

    value_short : length (joined (texts_of (client_fields s m))) ≤ 4096
    value_short = omega (arith, joined_short (client_fields s m) fields_good, read.few)

    parity : (b : ℕ) → b < 2 → eqb (cond (eqb b 1) 1 0) b ≡ true
    parity zero h = refl
    parity (suc zero) h = refl
    parity (suc (suc b)) h = absurd (omega arith)

    right_fields : request_fields (fields_of q) ≡ true
    unfolding request_fields nonce_bit client_fields the contents key_number rank_of keys codes same
    right_fields =
        rw (fields_are, read.right, read.nonces, mask_of_mask_bytes mask (omega (arith, good_mask s.orders entered.orders)))
        (parity (mask % 2) (mod-lt mask (omega arith)))

    -- its h is the chosen hash, which the orders allow
    mask_is : mask_of (mask_bytes (hash_mask hash)) ≡ hash_mask hash
    mask_is = mask_of_mask_bytes (hash_mask hash) (omega (arith, mask_small hash))

    hash_is : hash_of q ≡ hash
    unfolding hash_of client_fields the contents key_number rank_of keys codes same
    hash_is = ap (λ (fs : List Field). named (mask_of (the key_h fs))) fields_are ∙ ap named mask_is ∙ mask_named hash

    covered : as_ordered s.orders.numbers.hashes mask extra (fields_of q) ≡ true
    unfolding as_ordered client_fields client_code chosen_of the contents key_number rank_of keys codes same
    covered =
        rw (
          fields_are,
          read.covers,
          mask_is,
          allowed_mask hash s.orders.numbers.hashes (chosen_common (offered s) s.orders.numbers.hashes takes.common).1,
          mask_named hash,
          eq-eqb (length (client_code s m)) (digest_size hash) (length_hmac hash s.session_key (client_text s m)),
          same_self (mask_bytes mask),
        ) refl

    -- its token opens, and its signature is right
    iv_is : iv_of q ≡ s.iv
    unfolding iv_of client_fields the contents key_number rank_of keys codes same
    iv_is = ap (the key_iv) fields_are

    cipher_is : the key_s (fields_of q) ≡ (sealed_of s).cipher
    unfolding client_fields the contents key_number rank_of keys codes same
    cipher_is = ap (the key_s) fields_are

    tag_is : the key_tag (fields_of q) ≡ (sealed_of s).tag
    unfolding client_fields the contents key_number rank_of keys codes same
    tag_is = ap (the key_tag) fields_are

    opens : opened_of q ≡ some (new_token s)
    unfolding opened_of client_request
    opens = rw (iv_is, cipher_is, tag_is) (setup_opens s state done)

    token_is : token_of q ≡ new_token s
    unfolding token_of
    token_is = ap the_token opens

    time_is : time_of q ≡ m.time
    unfolding time_of client_fields the contents key_number rank_of keys codes same
    time_is = ap (λ (fs : List Field). number (the key_t fs)) fields_are ∙ number_number_bytes m.time (omega (arith, fair.time_fits))

    last_time_is : last_time_of q ≡ m.last_time
    unfolding last_time_of client_fields the contents key_number rank_of keys codes same
    last_time_is = ap (λ (fs : List Field). number (the key_lt fs)) fields_are ∙ number_number_bytes m.last_time (omega (arith, fair.last_time_fits))

    nonce_is : orders_nonce mask ≡ true → nonce_of q ≡ m.nonce
    unfolding nonce_of
    nonce_is o =
        ap (λ (fs : List Field). number (the key_n fs)) fields_are ∙ ap number (read.nonce ∙ rw o refl) ∙ number_number_bytes m.nonce (omega (arith, fair.nonce_fits))

    nonce_same : (o : Bool) → orders_nonce mask ≡ o → Signed.nonce_of mask (number (cond o (number_bytes m.nonce) [])) ≡ Signed.nonce_of mask m.nonce
    unfolding Signed.nonce_of
    nonce_same true e = ap (Signed.nonce_of mask) (number_number_bytes m.nonce (omega (arith, fair.nonce_fits)))
    nonce_same false e = rw e refl

    text_is : text_of q ≡ client_text s m
    unfolding text_of nonce_of request_text signed_of client_request
    text_is = rw (hash_is, fields_are, read.nonce, time_is, last_time_is, nonce_same (orders_nonce mask) refl) refl

    code_is : code_of q ≡ client_code s m
    unfolding code_of client_code new_token
    code_is = rw (hash_is, token_is, text_is) refl

    signature_is : signature_of q ≡ client_code s m
    unfolding signature_of client_fields the contents key_number rank_of keys codes same
    signature_is = ap (the key_c) fields_are

    -- its session is the one that was set up
    abbrev after : State
    after = (set_up s state).state

    abbrev new : Record
    new = begun s.iv (expiry_of s) (hash_mask hash)

    table_is : after.table ≡ spliced state.table (R.size * takes.place) (record_bytes new)
    table_is = set_up_table s state ∙ rw done refl ∙ begun_table s state.table takes.place takes.takes

    within : takes.place < places state.table
    within = taken_within state.table s.clock takes.place takes.takes

    inside : takes.place < length (records state.table)
    inside = rw length_records within

    new_fits : R.Fits new
    new_fits = begun_fits s.iv (expiry_of s) hash takes.long takes.small

    there : Replaced state.table (spliced state.table (R.size * takes.place) (record_bytes new)) takes.place new
    there = replaced state.table takes.place new within new_fits

    records_are : records after.table ≡ set (records state.table) takes.place new
    records_are = ap records table_is ∙ records_stored state.table takes.place new within new_fits

    well : WellFormed (set (records state.table) takes.place new)
    well =
        stored_well (records state.table) takes.place new inside (well_formed_is (records state.table) entered.formed)
        (begun_sound s.iv (expiry_of s) hash) (alone_new (records state.table) takes.place new takes.unused)

    found_new : place_of after.table (iv_of q) ≡ Some takes.place
    found_new =
        rw (iv_is, records_are)
        (at_found (set (records state.table) takes.place new) s.iv takes.place well (rw length-set inside)
        (rw (stored_here (records state.table) takes.place new inside) (same_self s.iv)))

    record_is : record_at after.table takes.place ≡ new
    record_is = ap (λ (t : List ℕ). record_at t takes.place) table_is ∙ there.here

    index_is : after.index ≡ index_of (records after.table)
    index_is = set_up_index s state (set_up_number s state ∙ done)

    state_fits_lem : state_fits after ≡ true
    unfolding state_fits table_fits
    state_fits_lem =
        let fits = (both (table_fits state.table) (exactly (2 * places state.table) state.index) size.kept).0 in
        rw (index_is, eq-eqb _ _ (length_index_of (records after.table) ∙ ap (λ (n : ℕ). 2 * n) (length_records after.table)), table_is, there.as_long) (rw fits refl)

    method_some : 1 ≤ length m.method
    unfolding is_token
    method_some = ltb-true 0 (length m.method) (both (ltb 0 (length m.method)) _ fair.method_good).0

    fits : request_fits q after ≡ true
    unfolding request_fits lent_fits brought_fits client_request
    fits =
        rw (
          eq-eqb (length s.server_key) 32 size.server_key,
          le-leb (length (joined (texts_of (client_fields s m)))) 4096 value_short,
          le-leb 1 (length m.method) method_some,
          le-leb (length m.method) 16 fair.method_fits,
          le-leb (length m.head) 16384 fair.head_fits,
          le-leb (length m.aside) 16384 fair.aside_fits,
          le-leb 1 (length m.path) fair.path_some,
          le-leb (length m.path) 2048 fair.path_fits,
          le-leb (length m.body) 65536 fair.body_fits,
          le-leb 1024 (length reply) fair.reply_room,
          state_fits_lem,
        ) refl

    steps : (stepped q after.table).verdict ≡ Accepted
    unfolding stepped step_of
    steps = rw (found_new, record_is) refl

    unidle : exceeds (time_of q) (last_time_of q) (limits q).idle ≡ false
    unfolding limits client_request
    unidle = rw (time_is, last_time_is) (exceeds_sum m.time m.last_time _ ∙ le-ltb _ _ fair.active)

    in_time : exceeds q.clock (time_of q) (limits q).request_life ≡ false
    unfolding limits client_request
    in_time = rw time_is (exceeds_sum clock m.time _ ∙ le-ltb _ _ fair.timely)

    near : exceeds (time_of q) q.clock most_ahead ≡ false
    unfolding client_request
    near = rw time_is (exceeds_sum m.time clock _ ∙ le-ltb _ _ fair.near)

    unexpired : leb (token_of q).expiry q.clock ≡ false
    unfolding client_request new_token
    unexpired = rw token_is (lt-leb (expiry_of s) clock fair.lasts)

    entry_none : first (entry_part q after) ≡ 0
    unfolding entry_part entry_checks state_checks client_request
    entry_none = rw (fits, entered.orders, ap (same after.index) (sym index_is) ∙ same_self after.index, records_are, is_well_formed _ well) refl

    reading_none : first (reading_part q) ≡ 0
    unfolding reading_part covering_part twice client_request
    reading_none = rw (kept, right_fields, fair.method_good, fair.lines, fair.once, covered) refl

    vouching_none : first (vouching_part q) ≡ 0
    unfolding token_part signature_part
    vouching_none = rw (opens, unexpired, signature_is, code_is, same_self (client_code s m)) refl

    keeps : keeps_hash q after.table ≡ true
    unfolding keeps_hash
    keeps = rw (found_new, record_is, hash_is) (eq-eqb (hash_mask hash) (hash_mask hash) refl)

    session_none : first (session_part q after.table) ≡ 0
    unfolding session_part
    session_none = rw (keeps, found_new, unidle, in_time, near) refl

    nonce_none : first (nonce_part q after.table) ≡ 0
    unfolding nonce_part
    nonce_none = rw (steps, and-false (ordered q)) refl

    none : first (request_checks q after) ≡ 0
    unfolding request_checks
    none =
        vouched_decides q after (admitting_part q after.table) entry_none reading_none vouching_none
        ∙ passed_by (session_part q after.table) (nonce_part q after.table) (session_numbered q after.table) session_none
        ∙ nonce_none

-- the reply to a setup is read back into the fields that a client copies
pub reply_read : (s : Setup) (state : State) → LentBytes s → (set_up s state).number ≡ 0
    → grammar (reply_of s)
    ≡ some (reply_fields (sealed_of s).cipher s.iv (sealed_of s).tag s.session_key (chosen_of s) s.orders.numbers.mask s.orders.extra)
reply_read s state lent_bytes e = reply_fields_lem s state (sym (set_up_number s state) ∙ e) lent_bytes

-- after every setup that is answered 0, a fair message is accepted
pub client_accepted : (s : Setup) (state : State) (m : Message) (clock : ℕ) (reply : List ℕ) → LentBytes s → (set_up s state).number ≡ 0
    → Fair s m clock reply → (judged (client_request s m clock reply) (set_up s state).state).number ≡ 0
client_accepted s state m clock reply lent_bytes e fair =
    judged_number_lem _ _ ∙ none s state (sym (set_up_number s state) ∙ e) lent_bytes m clock reply fair

-- so what History and Agreement ask of a request can be met
pub client_passes : (s : Setup) (state : State) (m : Message) (clock : ℕ) (reply : List ℕ) → LentBytes s → (set_up s state).number ≡ 0
    → Fair s m clock reply
    → PassesOthers (client_request s m clock reply) (set_up s state).state × Reaches (client_request s m clock reply) (set_up s state).state
client_passes s state m clock reply lent_bytes e fair =
    let zero = none s state (sym (set_up_number s state) ∙ e) lent_bytes m clock reply fair in
    (accepted_passes _ _ zero, accepted_reaches _ _ zero)

-- it carries its time, and the token with the setup's expiry
pub client_carries : (s : Setup) (state : State) (m : Message) (clock : ℕ) (reply : List ℕ) → LentBytes s → (set_up s state).number ≡ 0
    → Fair s m clock reply → (time_of (client_request s m clock reply) ≡ m.time) × ((token_of (client_request s m clock reply)).expiry ≡ expiry_of s)
unfolding new_token
client_carries s state m clock reply lent_bytes e fair =
    let done = sym (set_up_number s state) ∙ e in (
      time_is s state done lent_bytes m clock reply fair,
      ap (λ (t : Token). t.expiry) (token_is s state done lent_bytes m clock reply fair),
    )

-- and its nonce, where nonces are ordered
pub client_nonce : (s : Setup) (state : State) (m : Message) (clock : ℕ) (reply : List ℕ) → LentBytes s → (set_up s state).number ≡ 0
    → Fair s m clock reply → orders_nonce s.orders.numbers.mask ≡ true → nonce_of (client_request s m clock reply) ≡ m.nonce
client_nonce s state m clock reply lent_bytes e fair = nonce_is s state (sym (set_up_number s state) ∙ e) lent_bytes m clock reply fair

-- it has the reply's token and its session's hash, and the session that the setup left keeps it
pub record Bears (s : Setup) (q : Request) (after : State) : Type 0 where
  pub token : the key_s (fields_of q) ≡ (sealed_of s).cipher
  pub iv : iv_of q ≡ s.iv
  pub tag : the key_tag (fields_of q) ≡ (sealed_of s).tag
  pub hash : hash_of q ≡ chosen_of s
  pub place : ℕ
  pub at : place_of after.table s.iv ≡ Some place
  pub keeps : (record_at after.table place).hash ≡ hash_mask (chosen_of s)

pub client_bears : (s : Setup) (state : State) (m : Message) (clock : ℕ) (reply : List ℕ) → LentBytes s → (set_up s state).number ≡ 0
    → Fair s m clock reply → Bears s (client_request s m clock reply) (set_up s state).state
client_bears s state m clock reply lent_bytes e fair =
    let done = sym (set_up_number s state) ∙ e in
    let iv = iv_is s state done lent_bytes m clock reply fair in
    record {
      token = cipher_is s state done lent_bytes m clock reply fair;
      iv = iv;
      tag = tag_is s state done lent_bytes m clock reply fair;
      hash = hash_is s state done lent_bytes m clock reply fair;
      place = (takes s state done lent_bytes).place;
      at = ap (place_of (set_up s state).state.table) (sym iv) ∙ found_new s state done lent_bytes m clock reply fair;
      keeps = ap (λ (r : Record). r.hash) (record_is s state done lent_bytes m clock reply fair);
    }

-- Document 02, K11: trying other people's clients. What is given, and how far the gate carries a request, stands in specs/Trial.antt.
-- Assumes nothing.
pub mod Replies
use mathlib.Core.Path.{◌≡◌, refl, sym, ap, ◌∙◌}
use mathlib.Core.Logic.{◌↔◌}
use mathlib.Core.Bool.{Bool, true, false, cond, not, ◌&&◌, ◌||◌, and-true, and-false}
use mathlib.Core.List.{List, [], ◌∷◌, ◌++◌, append_assoc}
use mathlib.Core.Option.{some}
use Prim.Native.Nat.{ℕ}
use native.Mathlib.Omega.{arith}
use borrow.Author.Tests.{eqb-true, eqb-false, eq-eqb, le-leb, lt-leb, not-false}
use lib.Dec.{eqb, leb}
use lib.ListN.{length}
use Rattle.cells.specs.Runs.{same}
use Rattle.cells.specs.Text.{codes}
use Rattle.cells.proofs.Equality.{same_self, same_equal}
use Rattle.cells.proofs.Tests.{tested, both}
use Rattle.hashes.specs.declared.Hash.{Hash}
use Rattle.hashes.specs.Hashes.{hash_mask, digest_size, has, named, allowed_one}
use Rattle.hashes.proofs.Hashes.{mask_named, named_mask, allowed_names, allowed_alone}
use Rattle.armor.specs.Numerals.{mask_bytes, mask_of}
use Rattle.armor.specs.Keys.{key_h, key_ah, key_c, key_s, key_iv}
use Rattle.armor.specs.Value.{grammar, carried}
use Rattle.armor.specs.Fields.{contents, times, the, request_fields, reply_times, reply_holds}
use Rattle.coverage.specs.Coverage.{extra_as_ordered, as_ordered}
use Rattle.names.specs.Names.{is_token}
use Rattle.names.specs.Covered.{covered_names}
use Rattle.lines.specs.Lines.{lines_in, good_block}
use Rattle.lines.specs.Values.{repeated}
use Rattle.orders.specs.Orders.{Orders, orders_of, orders_good}
use Rattle.token.specs.Token.{the_token}
use Rattle.reply.specs.LaidOut.{laid_out}
use Rattle.table.specs.declared.session.Record.{Record}
use Rattle.table.specs.Session.{place_of, held_at}
use Rattle.stages.specs.Request.{Request, request_of}
use Rattle.stages.specs.Checks.{Check, check, first, missing, nowhere}
use Rattle.stages.specs.Parts.{fields_of, iv_of, hash_of, nonce_of, time_of, last_time_of, signature_of, opened_of, token_of, text_of, code_under, code_of, twice, covering_part, reading_part, token_part, signature_part, vouching_part, admitting_part, keeps_hash}
use Rattle.stages.proofs.Checks.{passed_by, stopped_by, none_holds, passed_at, lacks, first_lacks}
use Rattle.stages.proofs.Parts.{reading_numbered, token_numbered, signature_numbered}
use Rattle.gate.specs.Calls.{Setup}
use Rattle.gate.specs.State.{State}
use Rattle.gate.specs.Sizes.{exactly, brought_fits, lent_fits, request_fits, state_fits}
use Rattle.gate.specs.Setup.{chosen_of, expiry_of, setup_checks, new_token, sealed_of, reply_of, set_up}
use Rattle.gate.specs.Judge.{entry_part, request_checks, judged}
use Rattle.gate.specs.Trial.{Trial, trial_of, granted, key_in, orders_in, request_in, trial_fits, reply_part, same_token, grant_part, trial_checks, tried}
use Rattle.gate.proofs.Numbers.{entry_passed, entry_numbered}
use Rattle.demands.specs.Client.{Message, client_request, LentBytes, Fair}
use Rattle.demands.specs.Trial.{at_gate, Given, SameToken, CarriedPast, as_replied, SetupReply}
use Rattle.demands.proofs.Shared.Answers.{set_up_number, judged_number_lem}
use Rattle.demands.proofs.Shared.Others.{parts}
use Rattle.demands.proofs.Client.{client_passes, client_bears}
use Rattle.demands.proofs.Client.Replies.{setup_writes, setup_opens}
use Rattle.demands.proofs.Trial.Replies.{Holds, holds, orders_told_lem, orders_pass, laid, some_setup, reply_short}

-- a trial whose reply some setup writes is decided by the request
decided : (t : Trial) → trial_fits t ≡ true → SetupReply t.setup_reply → tried t ≡ first (reading_part (request_in t) ++ grant_part t)
unfolding tried trial_checks reply_part
decided t fits r = simp (fits, laid t r, orders_pass t r)

-- 23, where the sizes fit: no setup writes such a reply
lacks_23 : (t : Trial) → lacks 23 (reading_part (request_in t) ++ grant_part t) ≡ true
unfolding reading_part covering_part grant_part
lacks_23 t = refl

unwritten : (t : Trial) → trial_fits t ≡ true → (SetupReply t.setup_reply → ⊥) → tried t ≡ 23
unfolding tried trial_checks reply_part
unwritten t fits none =
    tested (laid_out t.setup_reply && orders_good (orders_in t))
    (λ e. absurd (none (let p = both (laid_out t.setup_reply) (orders_good (orders_in t)) e in some_setup t p.0 p.1)))
    (λ e. rw (fits, e) refl)

pub no_such_reply : (t : Trial) → trial_fits t ≡ true → (tried t ≡ 23) ↔ (SetupReply t.setup_reply → ⊥)
no_such_reply t fits = (
  λ e r. first_lacks 23 (reading_part (request_in t) ++ grant_part t) (λ z. omega arith) (lacks_23 t) (sym (decided t fits r) ∙ e),
  λ none. unwritten t fits none,
)

-- as an empty reply
pub empty_reply : tried (trial_of [] [] (codes "GET") [] [] (codes "/") []) ≡ 23
unfolding tried trial_checks reply_part trial_fits request_in brought_fits laid_out reply_holds reply_times times contents carried grammar codes
empty_reply = refl

-- tests in another order
swapped : (a h l r : Bool) → (((a && h) && l) && r) ≡ (((a && l) && r) && h)
swapped true true l r = sym (and-true (l && r))
swapped true false l r = sym (and-false (l && r))
swapped false h l r = refl

-- h apart from the rest of 8, and the token before the signature
eights : (a h token x x' : Bool) → (a ≡ true → h ≡ true → token ≡ true → x' ≡ x)
    → ◌≡◌ {A = ℕ} (cond (not (a && h)) 8 (cond (not token) 8 (cond x' 11 0))) (cond (not a) 8 (cond (not (h && token)) 8 (cond x 11 0)))
eights true true true x x' same' = ap (λ (b : Bool). cond b 11 0) (same' refl refl refl)
eights true true false x x' same' = refl
eights true false token x x' same' = refl
eights false h token x x' same' = refl

module _ (s : Setup) (before : State) (t : Trial) (clock : ℕ) (reply : List ℕ) (state : State) (g : Given s before t clock reply state) where
  abbrev q : Request
  q = at_gate s t clock reply

  abbrev hash : Hash
  hash = chosen_of s

  abbrev mask : ℕ
  mask = s.orders.numbers.mask

  abbrev hashes : ℕ
  hashes = s.orders.numbers.hashes

  abbrev extra : List ℕ
  extra = s.orders.extra

  done : first (setup_checks s before) ≡ 0
  done = sym (set_up_number s before) ∙ g.done

  -- the reply is one that a setup writes
  written : SetupReply t.setup_reply
  written = setup_writes s before done g.lent_bytes t.setup_reply g.wrote

  allowed : has hash hashes ≡ true
  unfolding written setup_writes
  allowed = written.allowed

  told : Holds (granted t) (sealed_of s).cipher s.iv (sealed_of s).tag s.session_key hash mask extra
  unfolding written setup_writes
  told = holds t written

  -- the sizes fit
  fits : trial_fits t ≡ true
  unfolding trial_fits request_in brought_fits entry_part request_fits lent_fits
  fits =
      let sizes = (entry_passed (request_fits q state) q.orders state g.entry).sizes in
      let brought = (both (brought_fits q) _ (both (exactly 32 s.server_key) (brought_fits q && leb 1024 (length reply)) (both (lent_fits q) (state_fits state) sizes).0).1).0 in
      rw (le-leb (length t.setup_reply) 459 (reply_short t written)) brought

  -- the request under the orders that the reply tells
  abbrev q' : Request
  q' = request_of (orders_of mask (hash_mask hash) extra 0 0 0) 0 [] t.value t.method t.head t.aside t.path t.body []

  request_is : request_in t ≡ q'
  unfolding request_in written setup_writes
  request_is = ap (λ (o : Orders). request_of o 0 [] t.value t.method t.head t.aside t.path t.body []) (orders_told_lem t written)

  -- the token that it brought opens
  same_of : same_token (fields_of q) (granted t) ≡ true → SameToken s q
  unfolding same_token iv_of
  same_of e =
      let first' = both (same (the key_s (fields_of q)) (the key_s (granted t))) _ e in
      let rest = both (same (the key_iv (fields_of q)) (the key_iv (granted t))) _ first'.1 in
      record {
        token = same_equal _ _ first'.0 ∙ told.s_is;
        iv = same_equal _ _ rest.0 ∙ told.iv_is;
        tag = same_equal _ _ rest.1 ∙ told.tag_is;
      }

  of_same : SameToken s q → same_token (fields_of q) (granted t) ≡ true
  unfolding same_token iv_of
  of_same o =
      rw (o.token, told.s_is, same_self (sealed_of s).cipher, o.iv, told.iv_is, same_self s.iv, o.tag, told.tag_is) (same_self (sealed_of s).tag)

  opens : SameToken s q → opened_of q ≡ some (new_token s)
  unfolding opened_of
  opens o = rw (o.iv, o.token, o.tag) (setup_opens s before done)

  token_is : SameToken s q → token_of q ≡ new_token s
  unfolding token_of
  token_is o = ap the_token (opens o)

  key_is : key_in t ≡ s.session_key
  unfolding key_in
  key_is = told.key_is

  signed_same : SameToken s q → same (signature_of q') (code_under (key_in t) q') ≡ same (signature_of q) (code_of q)
  unfolding signature_of code_of hash_of text_of nonce_of time_of last_time_of fields_of new_token
  signed_same o = rw (key_is, token_is o) refl

  -- h, c, ah and eah
  covers_so : as_ordered (hash_mask hash) mask extra (fields_of q) ≡ (as_ordered hashes mask extra (fields_of q) && eqb (mask_of (the key_h (fields_of q))) (hash_mask hash))
  unfolding as_ordered
  covers_so =
      rw (allowed_alone hash hashes (mask_of (the key_h (fields_of q))) allowed)
      (swapped (allowed_one hashes (mask_of (the key_h (fields_of q)))) (eqb (mask_of (the key_h (fields_of q))) (hash_mask hash))
      (eqb (length (the key_c (fields_of q))) (digest_size (named (mask_of (the key_h (fields_of q))))))
      (same (the key_ah (fields_of q)) (mask_bytes mask) && extra_as_ordered extra (fields_of q)))

  grant_is : grant_part t
      ≡ (check 8 (not (same_token (fields_of q) (granted t))) ∷ check 11 (not (same (signature_of q') (code_under (key_in t) q'))) ∷ [])
  unfolding grant_part fields_of
  grant_is = rw request_is refl

  compared : first (reading_part q' ++ grant_part t) ≡ first (reading_part q ++ (check 8 (not (as_replied s t q)) ∷ signature_part q))
  unfolding reading_part covering_part twice signature_part as_replied fields_of
  compared =
      let names = covered_names mask extra in
      let before_8 : ℕ → ℕ = λ n.
      cond (missing (grammar t.value)) 4
      (cond (not (request_fields (carried t.value))) 5
      (cond (not (is_token t.method && (good_block t.head && good_block t.aside))) 6
      (cond (repeated names (lines_in t.head) || repeated names (lines_in t.aside)) 7 n))) in
      let token = same_token (carried t.value) (granted t) in
      let x' = not (same (signature_of q') (code_under (key_in t) q')) in
      ap (λ (cs : List Check). first (reading_part q' ++ cs)) grant_is
      ∙ ap (λ (b : Bool). before_8 (cond (not b) 8 (cond (not token) 8 (cond x' 11 0)))) covers_so
      ∙ ap before_8 (eights (as_ordered hashes mask extra (carried t.value)) (eqb (mask_of (the key_h (carried t.value))) (hash_mask hash)) token (not (same (signature_of q) (code_of q))) x' (λ a h e. ap not (signed_same (same_of e))))

  -- its number is that of the gate's own parts: reading, then 8 where h, s, iv or tag are not the reply's, then the signature
  pub fits_as_gate : tried t ≡ first (reading_part q ++ (check 8 (not (as_replied s t q)) ∷ signature_part q))
  fits_as_gate = decided t fits written ∙ ap (λ (p : Request). first (reading_part p ++ grant_part t)) request_is ∙ compared

  -- what a request has passed that fits
  passed_eight : (r : Bool) (n : ℕ) → cond (not r) 8 n ≡ 0 → (r ≡ true) × (n ≡ 0)
  passed_eight true n e = (refl, e)
  passed_eight false n e = absurd (omega arith)

  token_passes : SameToken s q → first (token_part q) ≡ 0
  unfolding token_part new_token
  token_passes o = rw (token_is o, opens o, lt-leb (expiry_of s) clock g.lasts) refl

  entry_passes : (later : List Check) → first (entry_part q state ++ later) ≡ first later
  unfolding entry_part
  entry_passes later = passed_by (entry_part q state) later (entry_numbered (request_fits q state) q.orders state) g.entry

  hash_is : eqb (mask_of (the key_h (fields_of q))) (hash_mask hash) ≡ true → hash_of q ≡ hash
  unfolding hash_of
  hash_is e = ap named (eqb-true _ _ e) ∙ mask_named hash

  fits_carried : tried t ≡ 0 → SameToken s q × CarriedPast q state
  unfolding as_replied keeps_hash
  fits_carried e =
      let read = none_holds (reading_part q) (check 8 (not (as_replied s t q)) ∷ signature_part q) (reading_numbered q) (sym fits_as_gate ∙ e) in
      let past = passed_eight (as_replied s t q) (first (signature_part q)) read.later in
      let both' = both (eqb (mask_of (the key_h (fields_of q))) (hash_mask hash)) (same_token (fields_of q) (granted t)) past.0 in
      let token = same_of both'.1 in (
        token,
        record {
          vouched =
              entry_passes (reading_part q ++ vouching_part q)
              ∙ passed_by (reading_part q) (vouching_part q) (reading_numbered q) read.none
              ∙ passed_by (token_part q) (signature_part q) (token_numbered q) (token_passes token)
              ∙ past.1;
          kept = rw (token.iv, g.keeps, hash_is both'.0) (eq-eqb (hash_mask hash) (hash_mask hash) refl);
        },
      )

  -- a request that the gate carries past its checks has the hash of its session
  same_hash : CarriedPast q state → SameToken s q → first (reading_part q) ≡ 0 → eqb (mask_of (the key_h (fields_of q))) (hash_mask hash) ≡ true
  unfolding keeps_hash reading_part covering_part as_ordered hash_of
  same_hash c o read =
      let m = mask_of (the key_h (fields_of q)) in
      let size = eqb (length (the key_c (fields_of q))) (digest_size (named m)) in
      let covers = both (allowed_one hashes m && size) _ (not-false _ (passed_at (reading_part q) (reading_numbered q) read 8)) in
      let names = allowed_names hashes m (both (allowed_one hashes m) size covers.0).0 in
      let kept : (held_at state.table (place_of state.table (iv_of q))).hash ≡ hash_mask (named m) = eqb-true _ _ c.kept in
      let held = ap (λ (iv : List ℕ). (held_at state.table (place_of state.table iv)).hash) o.iv ∙ g.keeps in
      eq-eqb m (hash_mask hash) (sym (named_mask m names) ∙ sym kept ∙ held)

  carried_fits : SameToken s q → CarriedPast q state → tried t ≡ 0
  unfolding as_replied
  carried_fits o c =
      let read = none_holds (reading_part q) (vouching_part q) (reading_numbered q) (sym (entry_passes (reading_part q ++ vouching_part q)) ∙ c.vouched) in
      let signed = (none_holds (token_part q) (signature_part q) (token_numbered q) read.later).later in
      fits_as_gate ∙ passed_by (reading_part q) (check 8 (not (as_replied s t q)) ∷ signature_part q) (reading_numbered q) read.none
      ∙ rw (same_hash c o read.none, of_same o) signed

  -- document 02's sentence
  pub fits_exactly : SameToken s q → (tried t ≡ 0) ↔ CarriedPast q state
  fits_exactly o = (λ e. (fits_carried e).1, carried_fits o)

  -- and of any token
  pub fits_means : (tried t ≡ 0) ↔ (SameToken s q × CarriedPast q state)
  fits_means = (fits_carried, λ both'. carried_fits both'.0 both'.1)

  -- where it is no fit though h, s, iv and tag are the reply's, the gate gives the same number
  pub fits_number : as_replied s t q ≡ true → (tried t ≡ 0 → ⊥) → (judged q state).number ≡ tried t
  unfolding request_checks as_replied
  fits_number replied broken =
      let token = same_of (both (eqb (mask_of (the key_h (fields_of q))) (hash_mask hash)) (same_token (fields_of q) (granted t)) replied).1 in
      let own = check 8 (not (as_replied s t q)) ∷ signature_part q in
      let own_is : first own ≡ first (signature_part q) = rw replied refl in
      judged_number_lem q state
      ∙ entry_passes (reading_part q ++ (vouching_part q ++ admitting_part q state.table))
      ∙ tested (eqb (first (reading_part q)) 0)
      (λ e. let read = eqb-true (first (reading_part q)) 0 e in
      let here : tried t ≡ first (signature_part q) = fits_as_gate ∙ passed_by (reading_part q) own (reading_numbered q) read ∙ own_is in
      passed_by (reading_part q) (vouching_part q ++ admitting_part q state.table) (reading_numbered q) read
      ∙ ap first (append_assoc (token_part q) (signature_part q) (admitting_part q state.table))
      ∙ passed_by (token_part q) (signature_part q ++ admitting_part q state.table) (token_numbered q) (token_passes token)
      ∙ stopped_by (signature_part q) (admitting_part q state.table) (signature_numbered q) (λ z. broken (here ∙ z))
      ∙ sym here)
      (λ e. let unread = eqb-false (first (reading_part q)) 0 e in
      stopped_by (reading_part q) (vouching_part q ++ admitting_part q state.table) (reading_numbered q) unread
      ∙ sym (fits_as_gate ∙ stopped_by (reading_part q) own (reading_numbered q) unread))

-- after every setup that is done, the request that a client makes from the reply fits
pub client_fits : (s : Setup) (before : State) (m : Message) (clock : ℕ) (reply : List ℕ) → LentBytes s → (set_up s before).number ≡ 0
    → Fair s m clock reply
    → tried (trial_of (reply_of s) (client_request s m clock reply).value m.method m.head m.aside m.path m.body) ≡ 0
unfolding client_request keeps_hash
client_fits s before m clock reply lent_bytes e fair =
    let q = client_request s m clock reply in
    let state = (set_up s before).state in
    let t = trial_of (reply_of s) q.value m.method m.head m.aside m.path m.body in
    let bears = client_bears s before m clock reply lent_bytes e fair in
    let p = parts q state (client_passes s before m clock reply lent_bytes e fair).0 in
    let stands = ap (held_at state.table) bears.at in
    let given : Given s before t clock reply state = record {
      lent_bytes = lent_bytes;
      done = e;
      wrote = refl;
      entry = p.entry;
      lasts = fair.lasts;
      stands = ap nowhere bears.at;
      keeps = ap (λ (r : Record). r.hash) stands ∙ bears.keeps;
    } in
    carried_fits s before t clock reply state given (record { token = bears.token; iv = bears.iv; tag = bears.tag }) (record {
      vouched =
          entry_passes s before t clock reply state given (reading_part q ++ vouching_part q)
          ∙ passed_by (reading_part q) (vouching_part q) (reading_numbered q) p.reading
          ∙ p.vouching;
      kept = rw (bears.iv, bears.hash, ap (λ (r : Record). r.hash) stands ∙ bears.keeps) (eq-eqb (hash_mask (chosen_of s)) (hash_mask (chosen_of s)) refl);
    })

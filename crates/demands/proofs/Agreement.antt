-- Demand 3: 'Take two requests that each reach the signature check. If their signed texts, as 01 defines them, are equal, then they agree in
-- coverage, nonce, both times, every covered header value, path and body; an absent header counts as an empty one. If they also carry the same
-- signature, token, IV and tag, and meet the same server key, orders, clock and table, they get the same verdict, reply and table after.'
-- By document 02, K3, they agree in the method too; and by K10, lines that are combined agree with those that they were.
-- Assumes nothing.
pub mod SignedText
pub mod Joining
pub mod Reading
use mathlib.Core.Path.{◌≡◌, refl, sym, ap, ◌∙◌}
use mathlib.Core.List.{List, [], ◌++◌, append-nil}
use Prim.Native.Nat.{ℕ, zero, suc, ◌%◌, ◌<◌}
use native.Mathlib.Omega.{arith}
use borrow.Author.Tests.{eq-eqb}
use Rattle.hashes.specs.declared.Hash.{Hash}
use Rattle.hashes.specs.Hashes as Hashes
use Rattle.hashes.specs.Hashes.{hash_mask}
use Rattle.cells.specs.Numbers.{number}
use Rattle.armor.specs.Numerals.{number_bytes, mask_bytes, mask_of}
use Rattle.armor.specs.Keys.{key_n}
use Rattle.armor.proofs.Noting.{none_held}
use Rattle.lines.specs.Lines.{lines_in}
use Rattle.signed.specs.SignedText.{signed_text}
use Rattle.signed.proofs.SameText as Text
use Rattle.gate.specs.State.{State}
use Rattle.stages.specs.Request.{Request}
use Rattle.stages.specs.Parts.{hash_of, fields_of, iv_of, signature_of, nonce_of, time_of, last_time_of, opened_of, token_of, text_of, reading_part, token_part}
use Rattle.gate.specs.Judge.{entry_part, judged}
use Rattle.stages.proofs.Checks.{none_holds}
use Rattle.gate.proofs.Numbers.{entry_numbered}
use Rattle.stages.proofs.Parts.{reading_numbered}
use Rattle.demands.specs.Passing.{Reaches}
use Rattle.demands.proofs.Shared.Checks.{opens}
use Rattle.demands.proofs.Shared.Passed.{Passed, all_passed}
use Rattle.demands.proofs.Shared.Carried.{named, hash_ordered, mask_ordered, names_ordered, names_times, mask_fits, nonce_ordered, time_small, last_time_small, nonce_small}
use Rattle.demands.specs.Agreement.{carries, carries_times, signed_by, Alike, Agree, MeetAlike}
use Rattle.demands.specs.Combined.{Combined, with_lines}
use Rattle.demands.proofs.Agreement.Joining.{head_text, aside_text}
use Rattle.demands.proofs.Agreement.SignedText.{text_carried, time_carried, last_time_carried, nonce_carried}
use Rattle.demands.proofs.Agreement.Reading.{ReadAlike, judged_alike, judged_same}

reaching : (q : Request) (state : State) → Reaches q state → Passed q state
unfolding entry_part
reaching q state r =
    let read = none_holds (entry_part q state) (reading_part q ++ token_part q) (entry_numbered _ _ _) r in
    let opened = none_holds (reading_part q) (token_part q) (reading_numbered q) read.later in
    all_passed q state read.none opened.none (opens q [] 0 (rw append-nil opened.later) (λ z. omega arith))

-- its signed text is document 01's, of the bytes that it carries
pub signed_text_lem : (q : Request) (state : State) → Reaches q state → text_of q ≡ signed_text (signed_by q)
signed_text_lem q state r = text_carried q state (reaching q state r)

abbrev signing : Request → Text.Request
signing q = record {
  method = q.method;
  hash = hash_of q;
  mask = q.orders.numbers.mask;
  extra = q.orders.extra;
  n = nonce_of q;
  t = time_of q;
  lt = last_time_of q;
  aside = q.aside;
  head = q.head;
  path = q.path;
  body = q.body;
}

signing_fits : (q : Request) (state : State) → Passed q state → Text.Fits (signing q)
signing_fits q state p =
    record { mask = mask_fits q state p; n = nonce_small q state p; t = time_small q state p; lt = last_time_small q state p }

module _ (p q : Request) (s t : State) (rp : Reaches p s) (rq : Reaches q t) (e : text_of p ≡ text_of q) where
  left : Passed p s
  left = reaching p s rp

  right : Passed q t
  right = reaching q t rq

  texts : Text.Same (signing p) (signing q)
  unfolding text_of
  texts = Text.request_same (signing p) (signing q) (signing_fits p s left) (signing_fits q t right) e

  counts : carries_times key_n p ≡ carries_times key_n q
  counts = nonce_ordered p s left ∙ ap (λ (m : ℕ). m % 2) texts.mask ∙ sym (nonce_ordered q t right)

  nonces : (k : ℕ) → carries_times key_n p ≡ k → k < 2 → carries key_n p ≡ carries key_n q
  nonces zero c l = none_held key_n (fields_of p) c ∙ sym (none_held key_n (fields_of q) (sym counts ∙ c))
  nonces (suc zero) c l =
      sym (nonce_carried p s left c)
      ∙ ap number_bytes (texts.n (eq-eqb (p.orders.numbers.mask % 2) 1 (sym (nonce_ordered p s left) ∙ c)))
      ∙ nonce_carried q t right (sym counts ∙ c)
  nonces (suc (suc k)) c l = absurd (omega arith)

  agreed : Agree p q
  agreed = record {
    method = texts.method;
    h = hash_ordered p s left ∙ ap (λ (h : Hash). mask_bytes (hash_mask h)) texts.hash ∙ sym (hash_ordered q t right);
    ah = mask_ordered p s left ∙ ap mask_bytes texts.mask ∙ sym (mask_ordered q t right);
    eah = names_ordered p s left ∙ texts.extra ∙ sym (names_ordered q t right);
    eah_or_not = names_times p s left ∙ ap named texts.extra ∙ sym (names_times q t right);
    mask = texts.mask;
    extra = texts.extra;
    n = nonces (p.orders.numbers.mask % 2) (nonce_ordered p s left) (omega arith);
    n_or_not = counts;
    t = sym (time_carried p s left) ∙ ap number_bytes texts.t ∙ time_carried q t right;
    lt = sym (last_time_carried p s left) ∙ ap number_bytes texts.lt ∙ last_time_carried q t right;
    headers = texts.values;
    path = texts.path;
    body = texts.body;
  }

-- THE THEOREM, its first sentence; the two may meet other orders and tables
pub agree : (p q : Request) (s t : State) → Reaches p s → Reaches q t → text_of p ≡ text_of q → Agree p q
agree = agreed

token_alike : (p q : Request) → MeetAlike p q → token_of p ≡ token_of q
unfolding token_of opened_of
token_alike p q m = rw (m.token, m.iv, m.tag, m.server_key)

read_alike : (p q : Request) → Agree p q → MeetAlike p q → text_of p ≡ text_of q → ReadAlike p q
unfolding hash_of nonce_of time_of last_time_of
read_alike p q a m e = record {
  orders = m.orders;
  clock = m.clock;
  iv = m.iv;
  nonce = ap number a.n;
  time = ap number a.t;
  last_time = ap number a.lt;
  hash = ap (λ (h : List ℕ). Hashes.named (mask_of h)) a.h;
  signature = m.signature;
  token = token_alike p q m;
  text = e;
}

-- THE THEOREM, its second sentence
pub same_verdict : (p q : Request) (state : State) → Reaches p state → Reaches q state → text_of p ≡ text_of q → MeetAlike p q
    → Alike (judged p state) (judged q state)
same_verdict p q state rp rq e m = judged_alike p q state (read_alike p q (agree p q state state rp rq e) m e) rp rq

-- where the reply buffers are equal too, every byte of them is the same after
pub same_outcome : (p q : Request) (state : State) → Reaches p state → Reaches q state → text_of p ≡ text_of q → MeetAlike p q
    → p.reply ≡ q.reply → judged p state ≡ judged q state
same_outcome p q state rp rq e m b = judged_same p q state (read_alike p q (agree p q state state rp rq e) m e) rp rq b

-- THE THEOREM of document 02, K10: lines that are combined agree, in the head and among those set aside, and are judged alike
alike_but_lines : (q : Request) (head aside : List ℕ) → MeetAlike q (with_lines q head aside)
unfolding signature_of iv_of fields_of
alike_but_lines q head aside = record { signature = refl; token = refl; iv = refl; tag = refl; server_key = refl; orders = refl; clock = refl }

module _ (q : Request) (s : State) (reaches : Reaches q s) where
  pub combined_head : (head : List ℕ) → Reaches (with_lines q head q.aside) s → Combined (lines_in q.head) (lines_in head)
      → Agree q (with_lines q head q.aside) × (judged q s ≡ judged (with_lines q head q.aside) s)
  unfolding text_of hash_of nonce_of time_of last_time_of fields_of
  combined_head head there c =
      let p = with_lines q head q.aside in
      let e : text_of q ≡ text_of p = head_text _ _ _ _ _ _ _ q.aside q.head head q.path q.body c in
      (agree q p s s reaches there e, same_outcome q p s reaches there e (alike_but_lines q head q.aside) refl)

  pub combined_aside : (aside : List ℕ) → Reaches (with_lines q q.head aside) s → Combined (lines_in q.aside) (lines_in aside)
      → Agree q (with_lines q q.head aside) × (judged q s ≡ judged (with_lines q q.head aside) s)
  unfolding text_of hash_of nonce_of time_of last_time_of fields_of
  combined_aside aside there c =
      let p = with_lines q q.head aside in
      let e : text_of q ≡ text_of p = aside_text _ _ _ _ _ _ _ q.aside aside q.head q.path q.body c in
      (agree q p s s reaches there e, same_outcome q p s reaches there e (alike_but_lines q q.head aside) refl)

-- What demand 3 speaks of: 'agree in coverage, nonce, both times, every covered header value, path and body', by document 02, K3, in the method
-- too, 'carry the same signature, token, IV and tag, and meet the same server key, orders, clock and table', 'the same verdict, reply and table
-- after'.
-- Assumes nothing.
use Rattle.std.specs.Prelude.{◌≡◌, cond, ℕ, eqb, take}
use mathlib.Core.List.{List, Memᴰ}
use Rattle.std.proofs.Math.Option.{none, some}
use Rattle.armor.specs.Numerals.{mask_of}
use Rattle.armor.specs.Keys.{key_s, key_t, key_lt, key_n, key_h, key_ah, key_tag, key_eah}
use Rattle.armor.specs.Fields.{times, the}
use Rattle.names.specs.Covered.{covered_names}
use Rattle.lines.specs.Lines.{lines_in}
use Rattle.lines.specs.Values.{covered_value}
use Rattle.signed.specs.SignedText.{Signed, covered_values}
use Rattle.stages.specs.Request.{Request}
use Rattle.stages.specs.Parts.{fields_of, iv_of, signature_of}
use Rattle.gate.specs.State.{Outcome}

-- what a request carries under a key, as decoded bytes; nothing where the key is absent
abbrev pub carries : ℕ → Request → List ℕ
carries key q = the key (fields_of q)

-- how often it carries the key
abbrev pub carries_times : ℕ → Request → ℕ
carries_times key q = times key (fields_of q)

-- what is signed, as carried
abbrev pub signed_by : Request → Signed
signed_by q = record {
  method = q.method;
  h = carries key_h q;
  ah = carries key_ah q;
  eah = carries key_eah q;
  n = cond (eqb (carries_times key_n q) 1) (some (carries key_n q)) none;
  t = carries key_t q;
  lt = carries key_lt q;
  values = covered_values (mask_of (carries key_ah q)) (carries key_eah q) q.aside q.head;
  path = q.path;
  body = q.body;
}

-- the value of a header in the set-aside lines, or else in the head; an absent one is empty
abbrev pub header_of : Request → List ℕ → List ℕ
header_of q name = covered_value (lines_in q.aside) (lines_in q.head) name

-- two requests agree in method, coverage, nonce, both times, every covered header value, path and body
pub record Agree (p q : Request) : Type 0 where
  pub method : p.method ≡ q.method
  pub h : carries key_h p ≡ carries key_h q
  pub ah : carries key_ah p ≡ carries key_ah q
  pub eah : carries key_eah p ≡ carries key_eah q
  pub eah_or_not : carries_times key_eah p ≡ carries_times key_eah q
  pub mask : p.orders.numbers.mask ≡ q.orders.numbers.mask
  pub extra : p.orders.extra ≡ q.orders.extra
  pub n : carries key_n p ≡ carries key_n q
  pub n_or_not : carries_times key_n p ≡ carries_times key_n q
  pub t : carries key_t p ≡ carries key_t q
  pub lt : carries key_lt p ≡ carries key_lt q
  pub headers : (name : List ℕ) → Memᴰ name (covered_names p.orders.numbers.mask p.orders.extra) → header_of p name ≡ header_of q name
  pub path : p.path ≡ q.path
  pub body : p.body ≡ q.body

-- they carry the same signature, token, IV and tag, and meet the same server key, orders and clock
pub record MeetAlike (p q : Request) : Type 0 where
  pub signature : signature_of p ≡ signature_of q
  pub token : carries key_s p ≡ carries key_s q
  pub iv : iv_of p ≡ iv_of q
  pub tag : carries key_tag p ≡ carries key_tag q
  pub server_key : p.server_key ≡ q.server_key
  pub orders : p.orders ≡ q.orders
  pub clock : p.clock ≡ q.clock

-- two outcomes with the same number, reply and state
pub record Alike (a b : Outcome) : Type 0 where
  pub number : a.number ≡ b.number
  pub long : a.length ≡ b.length
  pub reply : take a.length a.reply ≡ take b.length b.reply
  pub state : a.state ≡ b.state

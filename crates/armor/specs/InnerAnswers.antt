-- What reading a value comes to: document 01, The numbers a call returns.
-- Assumes nothing.
use Rattle.std.specs.Prelude.{◌≡◌, Bool, true, false, cond, List, ℕ, ◌≤◌, eqb, length, Result, Ok, Err, IfSome, is_some}
use Rattle.std.specs.Prelude as P
use Rattle.std.proofs.Math.Option.{Option, none, some}
use Rattle.cells.specs.Runs.{cut}
use Rattle.cells.specs.InnerRun.{run_of}
use Rattle.cells.specs.Numbers.{number}
use Rattle.base_64.specs.Encoding.{encoded}
use Rattle.armor.specs.declared.Unread.{Unread}
use Rattle.armor.specs.declared.Span.{Span}
use Rattle.armor.specs.declared.Fields.{Fields}
use Rattle.armor.specs.declared.Request.{Request}
use Rattle.armor.specs.declared.Reply.{Reply}
use Rattle.armor.specs.Numerals.{mask_of}
use Rattle.armor.specs.Keys.{key_t, key_lt, key_n, key_h, key_ah, key_r, key_s, key_c, key_iv, key_tag, key_eah, other_key}
use Rattle.armor.specs.Value.{Field, grammar, carried}
use Rattle.armor.specs.Fields.{times, the, request_fields, setup_fields, reply_holds}

-- document 01's numbers
abbrev pub answer_number : Result Unit Unread → ℕ
answer_number (Ok _) = 0
answer_number (Err Unread.Grammar) = 4
answer_number (Err Unread.Fields) = 5

abbrev pub request_from : Option (List Field) → Result Unit Unread
request_from none = Err Unread.Grammar
request_from (some fs) = cond (request_fields fs) (Ok tt) (Err Unread.Fields)

-- a request: 4 where the value breaks its grammar, 5 where its set of fields is wrong
unfoldable pub request_answer : List ℕ → Result Unit Unread
request_answer v = request_from (grammar v)

abbrev pub setup_from : Option (List Field) → Result ℕ Unread
setup_from none = Err Unread.Grammar
setup_from (some fs) = cond (setup_fields fs) (Ok (mask_of (the key_r fs))) (Err Unread.Fields)

-- a setup: the client's mask, or the same two numbers
unfoldable pub setup_answer : List ℕ → Result ℕ Unread
setup_answer v = setup_from (grammar v)

-- a text of a value that encodes a run
pub record Encodes (v bs : List ℕ) (s : Span) : Type 0 where
  pub in_order : s.start ≤ s.end
  pub within : s.end ≤ length v
  pub text : cut v s.start s.end ≡ encoded bs

-- a request holds what its fields do, the bytes of four of them apart
pub record Holds (v : List ℕ) (fs : List Field) (q : Request) : Type 0 where
  pub time : q.t.0 ≡ number (the key_t fs)
  pub last_time : q.lt.0 ≡ number (the key_lt fs)
  pub nonce : q.n.0 ≡ number (the key_n fs)
  pub hash : q.h ≡ mask_of (the key_h fs)
  pub coverage : q.ah ≡ mask_of (the key_ah fs)
  pub with_extra : is_some q.eah ≡ eqb (times key_eah fs) 1
  pub extra : IfSome q.eah (λ s. Encodes v (the key_eah fs) s)

-- the bytes of those four lie in their places
pub record Lies (fs : List Field) (held : Fields) : Type 0 where
  pub token : run_of held.s ≡ the key_s fs
  pub signature : run_of held.c ≡ the key_c fs
  pub vector : held.iv ≡ the key_iv fs
  pub tag : held.tag ≡ the key_tag fs

-- a good request, and its bytes in their places
pub record Carries (v : List ℕ) (held : Fields) (q : Request) : Type 0 where
  pub is : request_answer v ≡ Ok tt
  pub holds : Holds v (carried v) q
  pub lies : Lies (carried v) held

abbrev pub ReadsRequest : List ℕ → Fields → Result Request Unread → Type 0
ReadsRequest v held (Ok q) = Carries v held q
ReadsRequest v held (Err e) = request_answer v ≡ Err e

-- a setup's reply holds what its fields do
pub record HoldsReply (fs : List Field) (r : Reply) : Type 0 where
  pub token : run_of r.s ≡ the key_s fs
  pub vector : r.iv ≡ the key_iv fs
  pub tag : r.tag ≡ the key_tag fs
  pub key : r.key ≡ the other_key fs
  pub hash : r.h ≡ mask_of (the key_h fs)
  pub coverage : r.ah ≡ mask_of (the key_ah fs)
  pub extra : run_of r.eah ≡ the key_eah fs

abbrev pub ReadsReply : List ℕ → P.Option Reply → Type 0
ReadsReply v P.None = reply_holds (carried v) ≡ false
ReadsReply v (P.Some r) = (reply_holds (carried v) ≡ true) × HoldsReply (carried v) r

-- Document 02, K11: 'It says fit exactly for values that the gate would carry past check 11 and K2's check against the record, taking as given
-- that our setup wrote that reply under the gate's orders and server key, that the token is the one in it, unexpired, and that sizes, orders and
-- table are good'.
-- Assumes nothing.
use Rattle.std.specs.Prelude.{◌≡◌, Bool, true, false, ◌&&◌, List, ◌++◌, ℕ, ◌<◌, ◌≤◌, eqb, length}
use Rattle.cells.specs.Runs.{Bytes}
use Rattle.hashes.specs.declared.Hash.{Hash}
use Rattle.hashes.specs.Hashes.{hash_mask, has}
use Rattle.armor.specs.Numerals.{mask_of}
use Rattle.armor.specs.Keys.{key_h, key_s, key_tag}
use Rattle.armor.specs.Fields.{the}
use Rattle.orders.specs.Orders.{Orders, orders_good}
use Rattle.reply.specs.Replies.{setup_reply}
use Rattle.table.specs.Session.{place_of, held_at}
use Rattle.stages.specs.Request.{Request, request_of}
use Rattle.stages.specs.Checks.{first, nowhere}
use Rattle.stages.specs.Parts.{fields_of, iv_of, keeps_hash, reading_part, vouching_part}
use Rattle.gate.specs.Calls.{Setup}
use Rattle.gate.specs.State.{State}
use Rattle.gate.specs.Setup.{chosen_of, expiry_of, sealed_of, reply_of, set_up}
use Rattle.gate.specs.Judge.{entry_part}
use Rattle.gate.specs.Trial.{Trial, granted, same_token}
use Rattle.demands.specs.Client.{LentBytes}

-- the request that is tried, as it comes to the gate that set the session up: under the same orders and server key
abbrev pub at_gate : Setup → Trial → ℕ → List ℕ → Request
at_gate s t clock reply =
    request_of s.orders clock s.server_key t.value t.method t.head t.aside t.path t.body reply

-- our setup wrote the reply, whose token is unexpired; sizes, orders, table and index are good; the session's record stands and keeps the
-- reply's h
pub record Given (s : Setup) (before : State) (t : Trial) (clock : ℕ) (reply : List ℕ) (state : State) : Type 0 where
  pub lent_bytes : LentBytes s
  pub done : (set_up s before).number ≡ 0
  pub wrote : t.setup_reply ≡ reply_of s
  pub entry : first (entry_part (at_gate s t clock reply) state) ≡ 0
  pub lasts : clock < expiry_of s
  pub stands : nowhere (place_of state.table s.iv) ≡ false
  pub keeps : (held_at state.table (place_of state.table s.iv)).hash ≡ hash_mask (chosen_of s)

-- the token is the one in the reply
pub record SameToken (s : Setup) (q : Request) : Type 0 where
  pub token : the key_s (fields_of q) ≡ (sealed_of s).cipher
  pub iv : iv_of q ≡ s.iv
  pub tag : the key_tag (fields_of q) ≡ (sealed_of s).tag

-- carried past check 11, and past K2's check against the record
pub record CarriedPast (q : Request) (state : State) : Type 0 where
  pub vouched : first (entry_part q state ++ (reading_part q ++ vouching_part q)) ≡ 0
  pub kept : keeps_hash q state.table ≡ true

-- h, s, iv and tag are those of the reply
unfoldable pub as_replied : Setup → Trial → Request → Bool
as_replied s t q = eqb (mask_of (the key_h (fields_of q))) (hash_mask (chosen_of s)) && same_token (fields_of q) (granted t)

-- a reply that some setup writes: laid out as document 01 says, and good orders give its h, ah and eah
pub record SetupReply (text : List ℕ) : Type 0 where
  pub s : List ℕ
  pub iv : List ℕ
  pub tag : List ℕ
  pub key : List ℕ
  pub hash : Hash
  pub orders : Orders
  pub is : text ≡ setup_reply s iv tag key hash orders.numbers.mask orders.extra
  pub good : orders_good orders ≡ true
  pub allowed : has hash orders.numbers.hashes ≡ true
  pub s_some : 1 ≤ length s
  pub s_fits : length s ≤ 118
  pub iv_fits : length iv ≡ 12
  pub tag_fits : length tag ≡ 16
  pub key_fits : length key ≡ 32
  pub of_bytes : Bytes s × Bytes iv × Bytes tag × Bytes key × Bytes orders.extra

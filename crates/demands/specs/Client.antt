-- The request that a client makes from the reply to its setup: document 01, 'The X-S-Armor value' and 'Header lines and the signed text'.
-- Assumes nothing.
use Rattle.std.specs.Prelude.{◌≡◌, Bool, true, false, ◌&&◌, ◌||◌, List, [], ◌∷◌, ◌++◌, ℕ, ◌+◌, ◌≤◌, ◌<◌, ◌^◌, length}
use Rattle.cells.specs.Runs.{Bytes}
use Rattle.cells.specs.Text.{codes}
use Rattle.hmac.specs.Hmac.{hmac_of}
use Rattle.names.specs.Names.{is_token}
use Rattle.names.specs.Covered.{covered_names}
use Rattle.lines.specs.Lines.{lines_in, good_block}
use Rattle.lines.specs.Values.{repeated}
use Rattle.armor.specs.Numerals.{number_bytes}
use Rattle.armor.specs.Value.{Field, field, joined, texts_of}
use Rattle.orders.specs.Orders.{limits_of}
use Rattle.signed.specs.SignedText.{orders_nonce, request_text}
use Rattle.reply.specs.Replies.{order_fields}
use Rattle.stages.specs.Request.{Request, request_of}
use Rattle.gate.specs.Calls.{Setup}
use Rattle.gate.specs.Setup.{chosen_of, expiry_of, sealed_of}

-- what a client sends beside its value, and the numbers that the value names
pub record Message : Type 0 where
  pub method : List ℕ
  pub head : List ℕ
  pub aside : List ℕ
  pub path : List ℕ
  pub body : List ℕ
  pub time : ℕ
  pub last_time : ℕ
  pub nonce : ℕ

-- n if nonces are ordered
abbrev pub nonce_field : Bool → ℕ → List Field
nonce_field true n = field (codes "n") (number_bytes n) ∷ []
nonce_field false n = []

abbrev pub client_text : Setup → Message → List ℕ
client_text s m =
    request_text m.method (chosen_of s) s.orders.numbers.mask s.orders.extra m.nonce m.time m.last_time m.aside m.head m.path m.body

-- the signature, under the key and the hash that the reply brought
unfoldable pub client_code : Setup → Message → List ℕ
client_code s m = hmac_of (chosen_of s) s.session_key (client_text s m)

-- s, iv and tag as the reply brought them, the signature and the times
abbrev pub main_fields : Setup → Message → List Field
main_fields s m =
    field (codes "s") (sealed_of s).cipher
    ∷ field (codes "c") (client_code s m)
    ∷ field (codes "t") (number_bytes m.time)
    ∷ field (codes "lt") (number_bytes m.last_time)
    ∷ field (codes "iv") s.iv
    ∷ field (codes "tag") (sealed_of s).tag
    ∷ []

-- those, h, ah and eah as the reply brought them, and n if nonces are ordered
unfoldable pub client_fields : Setup → Message → List Field
client_fields s m =
    main_fields s m
    ++ (order_fields (chosen_of s) s.orders.numbers.mask s.orders.extra ++ nonce_field (orders_nonce s.orders.numbers.mask) m.nonce)

unfoldable pub client_request : Setup → Message → ℕ → List ℕ → Request
client_request s m clock reply =
    request_of s.orders clock s.server_key (joined (texts_of (client_fields s m))) m.method m.head m.aside m.path m.body reply

-- a host lends a setup bytes
pub record LentBytes (s : Setup) : Type 0 where
  pub server_key : Bytes s.server_key
  pub session_key : Bytes s.session_key
  pub iv : Bytes s.iv
  pub session_id : Bytes s.session_id
  pub extra : Bytes s.orders.extra

-- a message within its sizes, with a good method and good lines, in time
pub record Fair (s : Setup) (m : Message) (clock : ℕ) (reply : List ℕ) : Type 0 where
  pub method_fits : length m.method ≤ 16
  pub head_fits : length m.head ≤ 16384
  pub aside_fits : length m.aside ≤ 16384
  pub path_some : 1 ≤ length m.path
  pub path_fits : length m.path ≤ 2048
  pub body_fits : length m.body ≤ 65536
  pub reply_room : 1024 ≤ length reply
  pub method_good : is_token m.method ≡ true
  pub lines : (good_block m.head && good_block m.aside) ≡ true
  pub once :
      (repeated (covered_names s.orders.numbers.mask s.orders.extra) (lines_in m.head)
      || repeated (covered_names s.orders.numbers.mask s.orders.extra) (lines_in m.aside))
      ≡ false
  pub time_fits : m.time < 2 ^ 32
  pub last_time_fits : m.last_time < 2 ^ 32
  pub nonce_fits : m.nonce < 2 ^ 32
  pub lasts : clock < expiry_of s
  pub active : m.time ≤ m.last_time + (limits_of s.orders).idle
  pub timely : clock ≤ m.time + (limits_of s.orders).request_life
  pub near : m.time ≤ clock + 30

-- The request that a client makes from the reply to its setup: document 01, 'The X-S-Armor value' and 'Header lines and the signed text'.
-- Assumes nothing.
use Rattle.std.specs.Prelude.{Bool, true, false, List, [], ◌∷◌, ◌++◌, ℕ}
use Rattle.cells.specs.Text.{codes}
use Rattle.hashes.specs.declared.Hash.{Hash}
use Rattle.hmac.specs.Hmac.{hmac_of}
use Rattle.armor.specs.Numerals.{number_bytes}
use Rattle.armor.specs.Value.{Field, field, joined, texts_of}
use Rattle.signed.specs.SignedText.{orders_nonce, request_text}
use Rattle.reply.specs.Replies.{order_fields}

-- what the reply brought
pub record Grant : Type 0 where
  pub s : List ℕ
  pub iv : List ℕ
  pub tag : List ℕ
  pub key : List ℕ
  pub hash : Hash
  pub mask : ℕ
  pub extra : List ℕ

-- what a client sends beside its value, and the numbers that the value names
pub record Message : Type 0 where
  pub method : List ℕ
  pub head : List ℕ
  pub aside : List ℕ
  pub path : List ℕ
  pub body : List ℕ
  pub time : ℕ
  pub last_time : ℕ
  pub nonce : ℕ

-- n if nonces are ordered
abbrev pub nonce_field : Bool → ℕ → List Field
nonce_field true n = field (codes "n") (number_bytes n) ∷ []
nonce_field false n = []

abbrev pub client_text : Grant → Message → List ℕ
client_text g m =
    request_text m.method g.hash g.mask g.extra m.nonce m.time m.last_time m.aside m.head m.path m.body

-- the signature, under the key and the hash that the reply brought
unfoldable pub client_code : Grant → Message → List ℕ
client_code g m = hmac_of g.hash g.key (client_text g m)

-- s, iv and tag as the reply brought them, the signature and the times
abbrev pub main_fields : Grant → Message → List Field
main_fields g m =
    field (codes "s") g.s
    ∷ field (codes "c") (client_code g m)
    ∷ field (codes "t") (number_bytes m.time)
    ∷ field (codes "lt") (number_bytes m.last_time)
    ∷ field (codes "iv") g.iv
    ∷ field (codes "tag") g.tag
    ∷ []

-- those, h, ah and eah as the reply brought them, and n if nonces are ordered
unfoldable pub client_fields : Grant → Message → List Field
client_fields g m = main_fields g m ++ (order_fields g.hash g.mask g.extra ++ nonce_field (orders_nonce g.mask) m.nonce)

unfoldable pub client_value : Grant → Message → List ℕ
client_value g m = joined (texts_of (client_fields g m))

-- The setup reply and the invalidation: document 01, 'The X-S-Armor value', its paragraph on the setup reply, and document 02, K2, for the hash.
-- Assumes nothing.
use Rattle.std.specs.Prelude.{List, [], ◌∷◌, ◌++◌, ℕ}
use Rattle.hashes.specs.declared.Hash.{Hash}
use Rattle.hashes.specs.declared.Hash.TheVariants.{Sha256, Sha512}
use Rattle.hashes.specs.Hashes.{hash_mask}
use Rattle.hmac.specs.Hmac.{hmac_of}
use Rattle.cells.specs.Text.{codes}
use Rattle.armor.specs.Numerals.{mask_bytes}
use Rattle.armor.specs.Value.{Field, field, field_text, joined, texts_of}

-- eah if there are extra names
abbrev pub extra_field : List ℕ → List Field
extra_field [] = []
extra_field (b ∷ bs) = field (codes "eah") (b ∷ bs) ∷ []

-- the fields after s: those of the token, and those of the orders
abbrev pub token_fields : List ℕ → List ℕ → List ℕ → List Field
token_fields iv tag key = field (codes "iv") iv ∷ field (codes "tag") tag ∷ field (codes "kh") key ∷ []

abbrev pub order_fields : Hash → ℕ → List ℕ → List Field
order_fields hash mask extra = field (codes "h") (mask_bytes (hash_mask hash)) ∷ field (codes "ah") (mask_bytes mask) ∷ extra_field extra

-- s, iv, tag, kh, h, ah, and eah if there are extra names
unfoldable pub reply_fields : List ℕ → List ℕ → List ℕ → List ℕ → Hash → ℕ → List ℕ → List Field
reply_fields s iv tag key hash mask extra = field (codes "s") s ∷ (token_fields iv tag key ++ order_fields hash mask extra)

-- those fields with ; between them, and no closing one
unfoldable pub setup_reply : List ℕ → List ℕ → List ℕ → List ℕ → Hash → ℕ → List ℕ → List ℕ
setup_reply s iv tag key hash mask extra = joined (texts_of (reply_fields s iv tag key hash mask extra))

-- i: and the base64 of HMAC(session key, `Session Expired`) under a hash
unfoldable pub invalidation : Hash → List ℕ → List ℕ
invalidation hash key = field_text (field (codes "i") (hmac_of hash key (codes "Session Expired")))

-- its length
abbrev pub invalidation_size : Hash → ℕ
invalidation_size Sha256 = 46
invalidation_size Sha512 = 90

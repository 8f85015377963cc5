-- The set of fields of a request, of a setup and of a setup's reply: document 01, The X-S-Armor value, and document 02, K11, for the reply.
-- Assumes nothing.
use Rattle.std.specs.Prelude.{Bool, cond, ◌&&◌, List, [], ◌∷◌, ℕ, ◌%◌, eqb, leb, length, get_or}
use Rattle.armor.specs.Numerals.{mask_of}
use Rattle.armor.specs.Keys.{key_number, key_t, key_lt, key_n, key_h, key_ah, key_r, key_s, key_c, key_iv, key_tag, key_eah, other_key}
use Rattle.armor.specs.Value.{Field}

-- what the fields with a key hold, in order
unfoldable pub contents : ℕ → List Field → List (List ℕ)
contents k [] = []
contents k (f ∷ fs) = cond (eqb (key_number f.key) k) (f.bytes ∷ contents k fs) (contents k fs)

unfoldable pub times : ℕ → List Field → ℕ
times k fs = length (contents k fs)

-- what the first field with a key holds; nothing where there is none
unfoldable pub the : ℕ → List Field → List ℕ
the k fs = get_or (contents k fs) 0 []

-- how often each key stands in a request: s, c, t, lt, h, ah, iv and tag once; eah once or not; r and every other key not. n has its own rule
unfoldable pub right_times : (ℕ → ℕ) → Bool
right_times n =
    (eqb (n key_s) 1 && eqb (n key_c) 1 && eqb (n key_t) 1 && eqb (n key_lt) 1)
    && (eqb (n key_h) 1 && eqb (n key_ah) 1 && eqb (n key_iv) 1 && eqb (n key_tag) 1)
    && (leb (n key_eah) 1 && eqb (n key_r) 0 && eqb (n other_key) 0)

-- bit 0 of the value's own ah
unfoldable pub nonce_bit : List Field → ℕ
nonce_bit fs = mask_of (the key_ah fs) % 2

-- those, and n exactly if bit 0 of ah is set
unfoldable pub request_fields : List Field → Bool
request_fields fs = right_times (λ k. times k fs) && eqb (times key_n fs) (nonce_bit fs)

-- r alone
unfoldable pub setup_fields : List Field → Bool
setup_fields fs = eqb (length fs) 1 && eqb (times key_r fs) 1

-- how often each key stands in a setup's reply: s, iv, tag, h, ah and one key without a rule, which kh is, once; eah once or not; the others not
unfoldable pub reply_times : (ℕ → ℕ) → Bool
reply_times n =
    (eqb (n key_s) 1 && eqb (n key_iv) 1 && eqb (n key_tag) 1 && eqb (n other_key) 1)
    && (eqb (n key_h) 1 && eqb (n key_ah) 1 && leb (n key_eah) 1)
    && (eqb (n key_c) 0 && eqb (n key_t) 0 && eqb (n key_lt) 0 && eqb (n key_n) 0 && eqb (n key_r) 0)

-- those, with a session key of 32 bytes and extra names of at most 128
unfoldable pub reply_holds : List Field → Bool
reply_holds fs = reply_times (λ k. times k fs) && (eqb (length (the other_key fs)) 32 && leb (length (the key_eah fs)) 128)

-- The checks of a request from its value on, in named parts: document 01, 'The numbers a call returns', 'Header lines and the signed text' and
-- 'Age, idleness and the window', and document 02, K2, for the hash, K3, for the method, K6, for a clock that runs ahead, and K10, for repeated
-- lines.
-- Assumes nothing.
use Rattle.std.specs.Prelude.{Bool, not, ◌&&◌, ◌||◌, List, [], ◌∷◌, ◌++◌, ℕ, eqb, leb}
use Rattle.std.proofs.Math.Option.{Option}
use Rattle.cells.specs.Runs.{same}
use Rattle.cells.specs.Numbers.{number}
use Rattle.hashes.specs.declared.Hash.{Hash}
use Rattle.hashes.specs.Hashes.{hash_mask, named}
use Rattle.hmac.specs.Hmac.{hmac_of}
use Rattle.armor.specs.Numerals.{mask_of}
use Rattle.armor.specs.Keys.{key_s, key_c, key_t, key_lt, key_n, key_h, key_iv, key_tag}
use Rattle.armor.specs.Value.{Field, grammar, carried}
use Rattle.armor.specs.Fields.{the, request_fields}
use Rattle.names.specs.Names.{is_token}
use Rattle.names.specs.Covered.{covered_names}
use Rattle.orders.specs.Orders.{limits_of}
use Rattle.orders.specs.declared.Limits.{Limits}
use Rattle.lines.specs.Lines.{lines_in, good_block}
use Rattle.lines.specs.Values.{repeated}
use Rattle.coverage.specs.Coverage.{as_ordered}
use Rattle.token.specs.Token.{Token, opened_token, has_token, the_token}
use Rattle.signed.specs.SignedText.{orders_nonce, request_text}
use Rattle.table.specs.declared.session.Record.{Record}
use Rattle.table.specs.Record.{window_of, with_window}
use Rattle.window.specs.declared.Stepped.{Stepped}
use Rattle.window.specs.Time.{exceeds, most_ahead}
use Rattle.window.specs.Window.{number_of, step_of}
use Rattle.stages.specs.Request.{Request}
use Rattle.stages.specs.Checks.{Check, check, missing, nowhere}
use Rattle.table.specs.Session.{place_of, held_at}

-- what the value carries
unfoldable pub fields_of : Request → List Field
fields_of q = carried q.value

unfoldable pub iv_of : Request → List ℕ
iv_of q = the key_iv (fields_of q)

unfoldable pub nonce_of : Request → ℕ
nonce_of q = number (the key_n (fields_of q))

unfoldable pub time_of : Request → ℕ
time_of q = number (the key_t (fields_of q))

unfoldable pub last_time_of : Request → ℕ
last_time_of q = number (the key_lt (fields_of q))

-- the hash that its h names
unfoldable pub hash_of : Request → Hash
hash_of q = named (mask_of (the key_h (fields_of q)))

unfoldable pub signature_of : Request → List ℕ
signature_of q = the key_c (fields_of q)

-- the token that it carries
unfoldable pub opened_of : Request → Option Token
opened_of q = opened_token q.server_key (iv_of q) (the key_s (fields_of q)) (the key_tag (fields_of q))

unfoldable pub token_of : Request → Token
token_of q = the_token (opened_of q)

unfoldable pub limits : Request → Limits
limits q = limits_of q.orders

unfoldable pub text_of : Request → List ℕ
text_of q =
    request_text q.method (hash_of q) q.orders.numbers.mask q.orders.extra (nonce_of q) (time_of q) (last_time_of q) q.aside q.head q.path q.body

-- what its signature must be under a session key, and under its token's
abbrev pub code_under : List ℕ → Request → List ℕ
code_under key q = hmac_of (hash_of q) key (text_of q)

unfoldable pub code_of : Request → List ℕ
code_of q = code_under (token_of q).key q

-- whether a name that the orders cover, and that is no list field, stands twice in a block
unfoldable pub twice : Request → List ℕ → Bool
twice q block = repeated (covered_names q.orders.numbers.mask q.orders.extra) (lines_in block)

-- whether the orders ask for a nonce
abbrev pub ordered : Request → Bool
ordered q = orders_nonce q.orders.numbers.mask

-- the session's window after the nonce
unfoldable pub stepped : Request → List ℕ → Stepped
stepped q table = step_of (window_of (held_at table (place_of table (iv_of q)))) (nonce_of q)

-- whether the window is asked, and answers by this number
abbrev pub window_says : ℕ → Request → List ℕ → Bool
window_says n q table = ordered q && eqb (number_of (stepped q table).verdict) n

-- 6 to 8: the method, the lines, and what the orders cover
unfoldable pub covering_part : Request → List Check
covering_part q =
    check 6 (not (is_token q.method && (good_block q.head && good_block q.aside)))
    ∷ check 7 (twice q q.head || twice q q.aside)
    ∷ check 8 (not (as_ordered q.orders.numbers.hashes q.orders.numbers.mask q.orders.extra (fields_of q)))
    ∷ []

-- 4 to 8: what the request says
unfoldable pub reading_part : Request → List Check
reading_part q =
    check 4 (missing (grammar q.value))
    ∷ check 5 (not (request_fields (fields_of q)))
    ∷ covering_part q

-- 9 and 10: the token
unfoldable pub token_part : Request → List Check
token_part q =
    check 9 (not (has_token (opened_of q)))
    ∷ check 10 (leb (token_of q).expiry q.clock)
    ∷ []

-- 11: the signature
unfoldable pub signature_part : Request → List Check
signature_part q = check 11 (not (same (signature_of q) (code_of q))) ∷ []

-- 9 to 11: whether token and signature vouch for the request
abbrev pub vouching_part : Request → List Check
vouching_part q = token_part q ++ signature_part q

-- whether the session's record keeps the request's hash
unfoldable pub keeps_hash : Request → List ℕ → Bool
keeps_hash q table = eqb (held_at table (place_of table (iv_of q))).hash (hash_mask (hash_of q))

-- 12, 8 against the record, 13, 14 and 21: the session and the times
unfoldable pub session_part : Request → List ℕ → List Check
session_part q table =
    check 12 (nowhere (place_of table (iv_of q)))
    ∷ check 8 (not (keeps_hash q table))
    ∷ check 13 (exceeds (time_of q) (last_time_of q) (limits q).idle)
    ∷ check 14 (exceeds q.clock (time_of q) (limits q).request_life)
    ∷ check 21 (exceeds (time_of q) q.clock most_ahead)
    ∷ []

-- 15 and 16: the nonce
unfoldable pub nonce_part : Request → List ℕ → List Check
nonce_part q table = check 15 (window_says 15 q table) ∷ check 16 (window_says 16 q table) ∷ []

-- from 12 on: whether the session admits the request
abbrev pub admitting_part : Request → List ℕ → List Check
admitting_part q table = session_part q table ++ nonce_part q table

-- the session's record with its window after the nonce
unfoldable pub next_of : Request → List ℕ → Record
next_of q table = with_window (held_at table (place_of table (iv_of q))) (stepped q table).window

-- the numbers that free the session's record: 10 and 13
abbrev pub invalidates : ℕ → Bool
invalidates n = eqb n 10 || eqb n 13

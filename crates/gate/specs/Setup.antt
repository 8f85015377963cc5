-- Setting up a session: document 01, 'The numbers a call returns' and 'The X-S-Armor value', and document 02, K2, for the hash, and K7, for the index.
-- Assumes nothing.
use Rattle.std.specs.Prelude.{cond, not, List, [], ◌∷◌, ◌++◌, ℕ, ◌+◌, eqb, ltb}
use Rattle.hashes.specs.declared.Hash.{Hash}
use Rattle.hashes.specs.Hashes.{hash_mask, in_common, chosen}
use Rattle.armor.specs.Numerals.{mask_of}
use Rattle.armor.specs.Keys.{key_r}
use Rattle.armor.specs.Value.{grammar, carried}
use Rattle.armor.specs.Fields.{the, setup_fields}
use Rattle.gcm.specs.Gcm.{Sealed}
use Rattle.orders.specs.Orders.{limits_of}
use Rattle.reply.specs.Replies.{setup_reply}
use Rattle.table.specs.Record.{begun}
use Rattle.table.specs.Table.{records, taken}
use Rattle.token.specs.Token.{Token, sealed_token}
use Rattle.stages.specs.Checks.{Check, check, first, missing, nowhere}
use Rattle.table.specs.Session.{place_of, with_record}
use Rattle.gate.specs.Calls.{Setup}
use Rattle.gate.specs.State.{State, indexed, Outcome, untouched, replied}
use Rattle.gate.specs.Sizes.{setup_fits}
use Rattle.gate.specs.Entry.{entry_checks}

-- the mask that the client offers
unfoldable pub offered : Setup → ℕ
offered s = mask_of (the key_r (carried s.value))

-- the longest hash that client and orders both have
unfoldable pub chosen_of : Setup → Hash
chosen_of s = chosen (offered s) s.orders.numbers.hashes

-- now plus session life
unfoldable pub expiry_of : Setup → ℕ
expiry_of s = s.clock + (limits_of s.orders).session_life

-- 1, 2, 3, 22: what is lent
unfoldable pub entry_part : Setup → State → List Check
entry_part s state = entry_checks (setup_fits s state) s.orders state

-- 19 and 20: a hash in common, and the session's end
unfoldable pub lasting_part : Setup → List Check
lasting_part s = check 19 (not (in_common (offered s) s.orders.numbers.hashes)) ∷ check 20 (ltb 4294967295 (expiry_of s)) ∷ []

-- 4, 5, 19, 20: what the client offers
unfoldable pub offer_part : Setup → List Check
offer_part s =
    check 4 (missing (grammar s.value))
    ∷ check 5 (not (setup_fields (carried s.value)))
    ∷ lasting_part s

-- 17 and 18: room in the table
unfoldable pub room_part : Setup → List ℕ → List Check
room_part s table =
    check 17 (not (nowhere (place_of table s.iv)))
    ∷ check 18 (nowhere (taken (records table) s.clock))
    ∷ []

-- 1, 2, 3, 22, 4, 5, 19, 20, 17, 18
unfoldable pub setup_checks : Setup → State → List Check
setup_checks s state = entry_part s state ++ (offer_part s ++ room_part s state.table)

unfoldable pub new_token : Setup → Token
new_token s = record { key = s.session_key; id = s.session_id; expiry = expiry_of s }

unfoldable pub sealed_of : Setup → Sealed
sealed_of s = sealed_token s.server_key s.iv (new_token s)

unfoldable pub reply_of : Setup → List ℕ
reply_of s = setup_reply (sealed_of s).cipher s.iv (sealed_of s).tag s.session_key (chosen_of s) s.orders.numbers.mask s.orders.extra

-- the record that is taken holds the IV, the new expiry, no nonce and the chosen hash
unfoldable pub with_session : Setup → List ℕ → List ℕ
with_session s table = with_record table (taken (records table) s.clock) (begun s.iv (expiry_of s) (hash_mask (chosen_of s)))

abbrev pub setup_outcome : ℕ → Setup → State → Outcome
setup_outcome number s state =
    cond (eqb number 0) (replied 0 (reply_of s) s.reply (indexed (with_session s state.table))) (untouched number s.reply state)

unfoldable pub set_up : Setup → State → Outcome
set_up s state = setup_outcome (first (setup_checks s state)) s state

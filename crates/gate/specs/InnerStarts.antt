-- What the code's stages answer for a setup, by the parts of its checks.
-- Assumes nothing.
use Rattle.std.specs.Prelude.{◌≡◌, List, ℕ, ◌*◌, ◌<◌, ◌≤◌, length, Some, None, Result, MatchResult}
use Rattle.cells.specs.Runs.{spliced}
use Rattle.hashes.specs.declared.Hash.{Hash}
use Rattle.hashes.specs.Hashes.{hash_mask}
use Rattle.reply.specs.Replies.{setup_reply}
use Rattle.table.specs.Record.{size, record_bytes, begun}
use Rattle.table.specs.Table.{places, records, taken}
use Rattle.table.specs.Session.{place_of}
use Rattle.token.specs.Token.{sealed_token}
use Rattle.names.specs.declared.covered.Covered.{Covered}
use Rattle.orders.specs.Orders.{Orders}
use Rattle.gate.specs.declared.lent.Lent.{Lent}
use Rattle.gate.specs.declared.setup.Start.{Start}
use Rattle.gate.specs.declared.setup.Offer.{Offer}
use Rattle.gate.specs.Calls.{Setup}
use Rattle.gate.specs.InnerSizes.{setup_by}
use Rattle.stages.specs.declared.refusal.Refusal.{Refusal}
use Rattle.stages.specs.InnerRefusals.{number_of}
use Rattle.stages.specs.Checks.{Check, first}
use Rattle.gate.specs.State.{State, indexed, Outcome, replied}
use Rattle.gate.specs.Setup.{offered, chosen_of, expiry_of, lasting_part, offer_part, room_part, setup_checks}

-- a refusal by one of some checks
abbrev pub RefusedBy : List Check → Refusal → Type 0
RefusedBy checks e = first checks ≡ number_of e

-- none of them holds, and the session would have this hash and last until then
pub record LastsUntil (checks : List Check) (hash : Hash) (end : ℕ) (r : Offer) : Type 0 where
  pub none : first checks ≡ 0
  pub is : r.expiry.0 ≡ end
  pub by : r.hash ≡ hash

abbrev pub Lasts : List Check → Hash → ℕ → Result Offer Refusal → Type 0
Lasts checks hash end r = MatchResult r (LastsUntil checks hash end) (RefusedBy checks)

-- 19 and 20, of any setup with these masks and this end
abbrev pub UntilIs : ℕ → ℕ → ℕ → Result Offer Refusal → Type 0
UntilIs mask hashes end r =
    (s : Setup) → offered s ≡ mask → s.orders.numbers.hashes ≡ hashes → expiry_of s ≡ end → Lasts (lasting_part s) (chosen_of s) end r

-- 4, 5, 19, 20, of any with this value, these allowed hashes and this end
abbrev pub OfferIs : List ℕ → ℕ → ℕ → Result Offer Refusal → Type 0
OfferIs value hashes end r =
    (s : Setup) → s.value ≡ value → s.orders.numbers.hashes ≡ hashes → expiry_of s ≡ end → Lasts (offer_part s) (chosen_of s) end r

-- a place for a new session with this IV
pub record HasRoom (checks : List Check) (table iv : List ℕ) (clock place : ℕ) : Type 0 where
  pub none : first checks ≡ 0
  pub is : taken (records table) clock ≡ Some place
  pub within : place < places table
  pub new : place_of table iv ≡ None

-- 17 and 18, of any with this IV at this time
abbrev pub RoomIs : List ℕ → List ℕ → ℕ → Result ℕ Refusal → Type 0
RoomIs table iv clock r =
    (s : Setup) → s.iv ≡ iv → s.clock ≡ clock → MatchResult r (HasRoom (room_part s table) table iv clock) (RefusedBy (room_part s table))

pub record Starts (s : Setup) (state : State) (r : Start) : Type 0 where
  pub none : first (setup_checks s state) ≡ 0
  pub is : taken (records state.table) s.clock ≡ Some r.place
  pub within : r.place < places state.table
  pub new : place_of state.table s.iv ≡ None
  pub by : r.hash ≡ chosen_of s
  pub until : r.expiry.0 ≡ expiry_of s

abbrev pub StartIs : Setup → State → Result Start Refusal → Type 0
StartIs s state r = MatchResult r (Starts s state) (RefusedBy (setup_checks s state))

-- of a setup with these parts, with room for the reply
abbrev pub DecidesStart : Orders → ℕ → Lent → State → Result Start Refusal → Type 0
DecidesStart o clock l state r = (reply : List ℕ) → 1024 ≤ length reply → StartIs (setup_by o clock l reply) state r

-- the effect of a setup that takes a place
unfoldable pub start_at : Covered → Lent → Start → List ℕ → List ℕ → Outcome
start_at covered lent start table reply =
    let token = sealed_token lent.server_key.now lent.iv.now (record { key = lent.session_key.now; id = lent.session_id.now; expiry = start.expiry.0 }) in
    replied 0 (setup_reply token.cipher lent.iv.now token.tag lent.session_key.now start.hash covered.mask covered.extra.now) reply
    (indexed (spliced table (size * start.place) (record_bytes (begun lent.iv.now start.expiry.0 (hash_mask start.hash)))))

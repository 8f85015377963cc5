-- What each call may do to table and reply buffer, by its number: document 01, 'The numbers a call returns'.
-- Assumes nothing.
use Rattle.std.specs.Prelude.{◌≡◌, true, false, ◌⊎◌, ℕ, ◌≤◌, length, take, drop, Some}
use mathlib.Core.List.{List, [], ◌∷◌, Memᴰ}
use Rattle.cells.specs.Runs.{Bytes}
use Rattle.hashes.specs.Hashes.{hash_mask}
use Rattle.window.specs.Window.{step_of}
use Rattle.table.specs.Record.{freed, begun, window_of, with_window}
use Rattle.table.specs.Table.{records, record_at, taken}
use Rattle.index.specs.Fits.{Fits}
use Rattle.signed.specs.SignedText.{orders_nonce}
use Rattle.reply.specs.Replies.{invalidation, invalidation_size}
use Rattle.gate.specs.Calls.{Setup}
use Rattle.stages.specs.Request.{Request}
use Rattle.gate.specs.State.{State, Outcome}
use Rattle.gate.specs.Setup.{chosen_of, expiry_of, setup_checks, reply_of}
use Rattle.stages.specs.Parts.{iv_of, hash_of, nonce_of, token_of}
use Rattle.gate.specs.Judge.{request_checks}
use Rattle.gate.specs.End.{end_checks}
use Rattle.gate.specs.Remake.{remake_checks}
use Rattle.demands.specs.Order.{Exactly}
use Rattle.demands.specs.Tables.{Replaced, SessionAt, Session}

-- the numbers that documents 01 and 02 give each call, in the order of their checks
abbrev pub setup_numbers : List ℕ
setup_numbers = 0 ∷ 1 ∷ 2 ∷ 3 ∷ 22 ∷ 4 ∷ 5 ∷ 19 ∷ 20 ∷ 17 ∷ 18 ∷ []

abbrev pub judge_numbers : List ℕ
judge_numbers = 0 ∷ 1 ∷ 2 ∷ 3 ∷ 22 ∷ 4 ∷ 5 ∷ 6 ∷ 7 ∷ 8 ∷ 9 ∷ 10 ∷ 11 ∷ 12 ∷ 8 ∷ 13 ∷ 14 ∷ 21 ∷ 15 ∷ 16 ∷ []

abbrev pub end_numbers : List ℕ
end_numbers = 0 ∷ 1 ∷ 3 ∷ 22 ∷ 12 ∷ []

abbrev pub remake_numbers : List ℕ
remake_numbers = 0 ∷ 1 ∷ 3 ∷ []

-- table, index and reply buffer keep every byte, and the reply length is 0
pub record Kept (buffer : List ℕ) (before : State) (o : Outcome) : Type 0 where
  pub long : o.length ≡ 0
  pub reply : o.reply ≡ buffer
  pub state : o.state ≡ before

-- a text stands at the front of the reply buffer, and the bytes after it keep their contents
pub record Replied (text buffer : List ℕ) (o : Outcome) : Type 0 where
  pub long : o.length ≡ length text
  pub front : take (length text) o.reply ≡ text
  pub rest : drop (length text) o.reply ≡ drop (length text) buffer

-- the index is the one that fits the table
abbrev pub Right : State → Type 0
Right s = Fits (records s.table) s.index

-- a setup takes the lowest free record, else the lowest whose expiry is at or before now
pub record Begun (s : Setup) (before : State) (o : Outcome) : Type 0 where
  pub place : ℕ
  pub lowest : taken (records before.table) s.clock ≡ Some place
  pub session : Replaced before.table o.state.table place (begun s.iv (expiry_of s) (hash_mask (chosen_of s)))
  pub index : Right o.state
  pub reply : Replied (reply_of s) s.reply o

pub record SetupEffects (s : Setup) (before : State) (o : Outcome) : Type 0 where
  pub listed : Memᴰ o.number setup_numbers
  pub in_order : Exactly (setup_checks s before) o.number
  pub refused : 1 ≤ o.number → Kept s.reply before o
  pub passed : o.number ≡ 0 → Begun s before o

-- the two refusals that free a session's record
abbrev pub TenOrThirteen : ℕ → Type 0
TenOrThirteen n = (n ≡ 10) ⊎ (n ≡ 13)

-- at 10 and 13 the record with the request's IV is freed, if there is one, and the reply is the invalidation under the request's hash
pub record Invalidated (q : Request) (before : State) (o : Outcome) : Type 0 where
  pub long : o.length ≡ invalidation_size (hash_of q)
  pub reply : Replied (invalidation (hash_of q) (token_of q).key) q.reply o
  pub freed : (place : ℕ) → SessionAt before.table (iv_of q) place → Replaced before.table o.state.table place freed
  pub kept : ((place : ℕ) → SessionAt before.table (iv_of q) place → ⊥) → o.state ≡ before
  pub index : Right o.state

-- a record with its window after a nonce: the second mark, the highest nonce and the bits may change, and nothing else does
pub record Moved (before after : List ℕ) (place nonce : ℕ) : Type 0 where
  pub session : Replaced before after place (with_window (record_at before place) (step_of (window_of (record_at before place)) nonce).window)
  pub used : (record_at after place).used ≡ (record_at before place).used
  pub iv : (record_at after place).iv ≡ (record_at before place).iv
  pub expiry : (record_at after place).expiry ≡ (record_at before place).expiry
  pub hash : (record_at after place).hash ≡ (record_at before place).hash

-- a request that returns 0 is replied to with the session id; its session's window takes the nonce where nonces are ordered
pub record Accepted (q : Request) (before : State) (o : Outcome) : Type 0 where
  pub session : Session before.table (iv_of q)
  pub reply : Replied (token_of q).id q.reply o
  pub index : o.state.index ≡ before.index
  pub ordered : Bytes before.table → orders_nonce q.orders.numbers.mask ≡ true → Moved before.table o.state.table session.place (nonce_of q)
  pub unordered : orders_nonce q.orders.numbers.mask ≡ false → o.state ≡ before

pub record JudgeEffects (q : Request) (before : State) (o : Outcome) : Type 0 where
  pub listed : Memᴰ o.number judge_numbers
  pub in_order : Exactly (request_checks q before) o.number
  pub refused : 1 ≤ o.number → (TenOrThirteen o.number → ⊥) → Kept q.reply before o
  pub invalidated : TenOrThirteen o.number → Invalidated q before o
  pub idle : o.number ≡ 13 → Session before.table (iv_of q)
  pub passed : o.number ≡ 0 → Accepted q before o

-- an ending frees the record
pub record Ended (vector : List ℕ) (before : State) (o : Outcome) : Type 0 where
  pub session : Session before.table vector
  pub freed : Replaced before.table o.state.table session.place freed
  pub index : Right o.state

pub record EndEffects (vector : List ℕ) (before : State) (o : Outcome) : Type 0 where
  pub listed : Memᴰ o.number end_numbers
  pub in_order : Exactly (end_checks vector before) o.number
  pub no_reply : (o.length ≡ 0) × (o.reply ≡ [])
  pub refused : 1 ≤ o.number → o.state ≡ before
  pub passed : o.number ≡ 0 → Ended vector before o

-- an index that is made fits; nothing else is touched
pub record Remade (before : State) (o : Outcome) : Type 0 where
  pub table : o.state.table ≡ before.table
  pub index : Right o.state

pub record RemakeEffects (before : State) (o : Outcome) : Type 0 where
  pub listed : Memᴰ o.number remake_numbers
  pub in_order : Exactly (remake_checks before) o.number
  pub no_reply : (o.length ≡ 0) × (o.reply ≡ [])
  pub refused : 1 ≤ o.number → o.state ≡ before
  pub passed : o.number ≡ 0 → Remade before o

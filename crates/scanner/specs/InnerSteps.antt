-- What the code's own steps read, make and write.
-- Assumes nothing.
use Rattle.std.specs.Prelude.{ℕ, ◌≡◌, true, false, List, [], ◌∷◌, ◌++◌, take, Option, None, Some}
use Rattle.cells.specs.InnerLaid.{Laid}
use Rattle.cells.specs.Text.{codes}
use Rattle.cells.specs.InnerRun.{run_of}
use Rattle.hashes.specs.declared.Hash.{Hash}
use Rattle.hashes.specs.Hashes.{digest_size, named}
use Rattle.armor.specs.declared.Reply.{Reply}
use Rattle.armor.specs.Numerals.{number_bytes}
use Rattle.armor.specs.Value.{field, field_text, following}
use Rattle.signed.specs.declared.brought.Brought.{Brought}
use Rattle.window.specs.declared.time.Time.{Time}
use Rattle.scanner.specs.declared.session.Session as Declared
use Rattle.scanner.specs.Requests.{Message, client_code, client_value}
use Rattle.scanner.specs.State.{Session, session_in, in_session}
use Rattle.scanner.specs.Sign.{Draft, draft_of, draft_fits, draft_good, message_in, advanced}

-- from its parts
abbrev pub session_of : ℕ → ℕ → ℕ → Hash → List ℕ → List ℕ → List ℕ → List ℕ → List ℕ → Session
session_of last_time next mask hash iv tag key s extra =
    record { grant = record { s = s; iv = iv; tag = tag; key = key; hash = hash; mask = mask; extra = extra }; last_time = last_time; next = next }

-- as the code holds it
abbrev pub session_at : Declared.Session → Session
session_at k = session_of k.last.0 k.next k.mask k.hash k.iv.now k.tag.now k.key.now k.s.now k.extra.now

-- the session that a state tells of, if it tells of one
abbrev pub ReadsSession : List ℕ → Option Declared.Session → Type 0
ReadsSession state (Some r) = (in_session state ≡ true) × (session_at r ≡ session_in state)
ReadsSession state None = in_session state ≡ false

-- a session as a reply begins it, at a time
abbrev pub BeginsWith : Time → Reply → Declared.Session → Type 0
BeginsWith time reply r =
    session_at r ≡ session_of time.0 0 reply.ah (named reply.h) reply.iv reply.tag reply.key (run_of reply.s) (run_of reply.eah)

-- a session with another last time and next nonce
abbrev pub advanced_to : Session → ℕ → ℕ → Session
advanced_to k last next = record { grant = k.grant; last_time = last; next = next }

-- those after a request
abbrev pub AfterIs : Session → ℕ → Time × ℕ → Type 0
AfterIs k clock r = advanced_to k r.0.0 r.1 ≡ advanced k clock

-- what a request brings, at a time
abbrev pub draft_in : ℕ → Brought → Draft
draft_in clock b = draft_of clock b.method.now b.lines.head.now b.path.now b.body.now

-- sizes, whatever the clock
abbrev pub BringsFitting : List ℕ → List ℕ → List ℕ → List ℕ → List ℕ → Option Brought → Type 0
BringsFitting method head path body out (Some r) =
    (clock : ℕ) → (draft_fits (draft_of clock method head path body) out ≡ true) × (draft_in clock r ≡ draft_of clock method head path body) × (r.lines.aside.now ≡ [])
BringsFitting method head path body out None = (clock : ℕ) → draft_fits (draft_of clock method head path body) out ≡ false

-- whether a request may be signed, and its code then
abbrev pub Signs : Draft → Session → Option (List ℕ) → Type 0
Signs d k (Some code) = (draft_good d k.grant ≡ true) × (take (digest_size k.grant.hash) code ≡ client_code k.grant (message_in k d))
Signs d k None = draft_good d k.grant ≡ false

-- s, and the fields up to tag
abbrev pub main_text : Session → List ℕ → ℕ → List ℕ
main_text k c time =
    field_text (field (codes "s") k.grant.s)
    ++ following (field (codes "c") c ∷ field (codes "t") (number_bytes time) ∷ field (codes "lt") (number_bytes k.last_time)
    ∷ field (codes "iv") k.grant.iv ∷ field (codes "tag") k.grant.tag ∷ [])

-- the value of a message at this time, whose code this is, stands at the front
abbrev pub PutsValue : Session → ℕ → List ℕ → List ℕ → List ℕ → ℕ → Type 0
PutsValue k time code before after r =
    (m : Message) → m.nonce ≡ k.next → m.time ≡ time → m.last_time ≡ k.last_time → client_code k.grant m ≡ take (digest_size k.grant.hash) code
    → Laid before after 0 r (client_value k.grant m)

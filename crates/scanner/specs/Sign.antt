-- What `scanner_sign` answers: document 02, K14.
-- Assumes nothing.
use Rattle.std.specs.Prelude.{ℕ, ◌+◌, ◌/◌, ◌%◌, Bool, not, cond, ◌&&◌, List, [], eqb, leb, ltb, length}
use Rattle.cells.specs.Runs.{fronted}
use Rattle.names.specs.Names.{is_token}
use Rattle.names.specs.Covered.{covered_names}
use Rattle.lines.specs.Lines.{lines_in, good_block}
use Rattle.lines.specs.Values.{repeated}
use Rattle.signed.specs.SignedText.{orders_nonce}
use Rattle.scanner.specs.Requests.{Grant, Message, client_value}
use Rattle.scanner.specs.State.{Session, state_of, session_in, in_session}

-- a request before its value is made
pub record Draft : Type 0 where
  pub clock : ℕ
  pub method : List ℕ
  pub head : List ℕ
  pub path : List ℕ
  pub body : List ℕ

abbrev pub draft_of : ℕ → List ℕ → List ℕ → List ℕ → List ℕ → Draft
draft_of clock method head path body = record { clock = clock; method = method; head = head; path = path; body = body }

abbrev pub long_from : ℕ → ℕ → List ℕ → Bool
long_from low high run = leb low (length run) && leb (length run) high

-- sizes, the buffer's too
unfoldable pub draft_fits : Draft → List ℕ → Bool
draft_fits d out =
    long_from 1 16 d.method
    && (leb (length d.head) 16384
    && (long_from 1 2048 d.path
    && (leb (length d.body) 65536
    && leb 4096 (length out))))

-- what no gate would take: a method that is no token, a malformed line, a covered name twice
unfoldable pub draft_good : Draft → Grant → Bool
draft_good d g = (is_token d.method && good_block d.head) && not (repeated (covered_names g.mask g.extra) (lines_in d.head))

-- no session, no nonce left, a part that is too long or malformed
unfoldable pub sign_number : Draft → List ℕ → List ℕ → ℕ
sign_number d state out =
    cond (not (in_session state)) 1
    (cond (ltb 4294967295 (session_in state).next) 2
    (cond (not (draft_fits d out && draft_good d (session_in state).grant)) 3 0))

-- the message of a session: nothing is set aside yet
abbrev pub message_in : Session → Draft → Message
message_in k d = record {
  method = d.method;
  head = d.head;
  aside = [];
  path = d.path;
  body = d.body;
  time = d.clock;
  last_time = k.last_time;
  nonce = k.next;
}

unfoldable pub value_in : Session → Draft → List ℕ
value_in k d = client_value k.grant (message_in k d)

-- the session after a request: its time is the last, and its nonce is used
unfoldable pub advanced : Session → ℕ → Session
advanced k clock = record { grant = k.grant; last_time = clock; next = k.next + cond (orders_nonce k.grant.mask) 1 0 }

-- a number, how long the value is, and what stands in buffer and state
pub record Outcome : Type 0 where
  pub number : ℕ
  pub length : ℕ
  pub out : List ℕ
  pub state : List ℕ

-- the call answers its number and 256 times the value's length
abbrev pub outcome : ℕ → List ℕ → List ℕ → Outcome
outcome answer out state = record { number = answer % 256; length = answer / 256; out = out; state = state }

-- at 0 the value stands at the front of the buffer; otherwise buffer and state keep every byte
abbrev pub sign_outcome : ℕ → List ℕ → List ℕ → List ℕ → List ℕ → Outcome
sign_outcome number value next out state =
    cond (eqb number 0) (record { number = 0; length = length value; out = fronted value out; state = next })
    (record { number = number; length = 0; out = out; state = state })

unfoldable pub signed : Draft → List ℕ → List ℕ → Outcome
signed d state out =
    let k = session_in state in
    sign_outcome (sign_number d state out) (value_in k d) (state_of (advanced k d.clock)) out state

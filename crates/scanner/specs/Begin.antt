-- What `scanner_begin` answers: document 02, K14.
-- Assumes nothing.
use Rattle.std.specs.Prelude.{ℕ, not, cond, List, eqb, leb, length}
use Rattle.hashes.specs.Hashes.{named}
use Rattle.armor.specs.Numerals.{mask_of}
use Rattle.armor.specs.Keys.{key_h, key_ah, key_s, key_iv, key_tag, key_eah, other_key}
use Rattle.armor.specs.Value.{Field, carried}
use Rattle.armor.specs.Fields.{the}
use Rattle.reply.specs.LaidOut.{is_reply}
use Rattle.scanner.specs.Requests.{Grant}
use Rattle.scanner.specs.State.{state_size, Session, state_of}

-- what the fields of a reply bring; kh, the session key, is the key without a rule
unfoldable pub grant_in : List Field → Grant
grant_in fs = record {
  s = the key_s fs;
  iv = the key_iv fs;
  tag = the key_tag fs;
  key = the other_key fs;
  hash = named (mask_of (the key_h fs));
  mask = mask_of (the key_ah fs);
  extra = the key_eah fs;
}

-- the session of a reply at the time of its setup: nonces begin at 0
unfoldable pub begun_with : ℕ → List ℕ → Session
begun_with time reply = record { grant = grant_in (carried reply); last_time = time; next = 0 }

-- a state of another size, a reply that is too long, one that no setup writes
unfoldable pub begin_number : List ℕ → List ℕ → ℕ
begin_number reply state =
    cond (not (eqb (length state) state_size)) 1
    (cond (not (leb (length reply) 459)) 3
    (cond (not (is_reply reply)) 4 0))

-- a number, and the state as it is left
pub record Answer : Type 0 where
  pub number : ℕ
  pub state : List ℕ

abbrev pub answer : ℕ → List ℕ → Answer
answer number state = record { number = number; state = state }

abbrev pub begin_answer : ℕ → List ℕ → List ℕ → Answer
begin_answer number new state = cond (eqb number 0) (answer 0 new) (answer number state)

unfoldable pub begun : ℕ → List ℕ → List ℕ → Answer
begun time reply state = begin_answer (begin_number reply state) (state_of (begun_with time reply)) state

-- What both calls are lent, and what is refused of it: document 02, K13.
-- Assumes nothing.
use Rattle.std.specs.Prelude.{ℕ, List, Bool, not, cond, ◌&&◌, leb, length}
use Rattle.cells.specs.Spans.{all}
use Rattle.names.specs.Extra.{extra_names as listed}
use Rattle.structured.specs.Texts.{is_key, printable}
use Rattle.signatures.specs.Components.{Message, message_of, good_message, all_components, all_printable, twice, missing}

-- a message, and what is asked to be signed of it, under which label, key id and key
pub record Asked : Type 0 where
  pub message : Message
  pub names : List ℕ
  pub label : List ℕ
  pub key_id : List ℕ
  pub key : List ℕ

abbrev pub asked_of : List ℕ → List ℕ → List ℕ → List ℕ → List ℕ → List ℕ → List ℕ → List ℕ → Asked
asked_of method authority path lines names label key_id key =
    record { message = message_of method authority path lines; names = names; label = label; key_id = key_id; key = key }

abbrev pub long_from : ℕ → ℕ → List ℕ → Bool
long_from low high run = leb low (length run) && leb (length run) high

unfoldable pub message_fits : Message → Bool
message_fits m =
    long_from 1 16 m.method
    && (long_from 1 255 m.authority
    && (long_from 1 2048 m.path
    && leb (length m.lines) 16384))

unfoldable pub asked_fits : Asked → Bool
asked_fits a =
    message_fits a.message
    && (leb (length a.names) 1024
    && (long_from 1 64 a.label
    && (long_from 1 255 a.key_id
    && long_from 1 256 a.key)))

unfoldable pub well_formed : Asked → Bool
well_formed a =
    good_message a.message
    && (all_components (listed a.names)
    && all_printable a.message (listed a.names))

unfoldable pub well_named : Asked → Bool
well_named a = is_key a.label && all printable a.key_id

-- what is refused of what is asked, sizes apart: the lowest number that holds, and 0 where none does
unfoldable pub asked_number : Asked → ℕ
asked_number a =
    cond (not (well_formed a)) 2
    (cond (not (well_named a)) 3
    (cond (twice (listed a.names)) 4
    (cond (missing a.message (listed a.names)) 5 0)))

-- an answer with the buffer as it is left
pub record Answer : Type 0 where
  pub number : ℕ
  pub out : List ℕ

abbrev pub answer : ℕ → List ℕ → Answer
answer number out = record { number = number; out = out }

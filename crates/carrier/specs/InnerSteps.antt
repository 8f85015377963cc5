-- What the code's own steps take and answer.
-- Assumes nothing.
use Rattle.std.specs.Prelude.{ℕ, ◌≤◌, ◌≡◌, List, true, false, length, Option, None, Some, Result, Ok, Err}
use Rattle.cells.specs.InnerLaid.{Laid}
use Rattle.signatures.specs.Components.{Message}
use Rattle.signatures.specs.Fields.{time_in}
use Rattle.signatures.specs.InnerAnswers.{message_in}
use Rattle.signatures.specs.declared.message.Message as M
use Rattle.carrier.specs.Asked.{Asked, message_fits, asked_fits}
use Rattle.carrier.specs.Sign.{sign_text, sign_number}
use Rattle.carrier.specs.Verify.{judged_number}
use Rattle.carrier.specs.InnerRefusals.{number_of}
use Rattle.carrier.specs.declared.asked.Asked as A
use Rattle.carrier.specs.declared.refusal.Refusal.{Refusal}

-- what is asked, as it is lent
abbrev pub asked_in : A.Asked → Asked
asked_in a = record { message = message_in a.message; names = a.names.now; label = a.label.now; key_id = a.key_id.now; key = a.key.now }

-- a message, and what is asked, if they have the sizes
abbrev pub MessageFits : Message → Option M.Message → Type 0
MessageFits m (Some r) = (message_fits m ≡ true) × (message_in r ≡ m)
MessageFits m None = message_fits m ≡ false

abbrev pub AskedFits : Asked → Option A.Asked → Type 0
AskedFits a (Some r) = asked_in r ≡ a
AskedFits a None = asked_fits a ≡ false

-- what is refused, or the two lines at the front
abbrev pub Signs : Asked → ℕ → List ℕ → List ℕ → Result ℕ Refusal → Type 0
Signs a created before after (Ok size) = (sign_number a created before ≡ 0) × Laid before after 0 size (sign_text a created) × (length (sign_text a created) ≤ 4096)
Signs a created before after (Err refusal) = (sign_number a created before ≡ number_of refusal) × (after ≡ before)

-- what is refused, sizes apart, or the time
abbrev pub VerdictIs : Asked → List ℕ → List ℕ → Result ℕ Refusal → Type 0
VerdictIs a input signature (Ok time) = (judged_number a input signature ≡ 0) × (time ≡ time_in input)
VerdictIs a input signature (Err refusal) = judged_number a input signature ≡ number_of refusal

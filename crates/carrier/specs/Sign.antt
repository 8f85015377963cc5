-- What `carrier_sign` answers: document 02, K13.
-- Assumes nothing.
use Rattle.std.specs.Prelude.{ℕ, ◌*◌, List, Bool, not, cond, ◌&&◌, eqb, leb, length}
use Rattle.cells.specs.Runs.{fronted}
use Rattle.structured.specs.Reading.{last_integer}
use Rattle.signatures.specs.Base.{base, code_of}
use Rattle.signatures.specs.Fields.{input_value, signature_value, field_lines}
use Rattle.carrier.specs.Asked.{Asked, asked_fits, asked_number, Answer, answer}

unfoldable pub sign_fits : Asked → ℕ → List ℕ → Bool
sign_fits a created out = asked_fits a && (leb created last_integer && leb 4096 (length out))

unfoldable pub sign_number : Asked → ℕ → List ℕ → ℕ
sign_number a created out = cond (not (sign_fits a created out)) 1 (asked_number a)

-- the two fields' values
unfoldable pub input_of : Asked → ℕ → List ℕ
input_of a created = input_value a.label a.names created a.key_id

unfoldable pub signature_of : Asked → ℕ → List ℕ
signature_of a created = signature_value a.label (code_of a.key (base a.message a.names created a.key_id))

unfoldable pub sign_text : Asked → ℕ → List ℕ
sign_text a created = field_lines (input_of a created) (signature_of a created)

abbrev pub sign_answer : ℕ → List ℕ → List ℕ → Answer
sign_answer number text out = cond (eqb number 0) (answer (256 * length text) (fronted text out)) (answer number out)

unfoldable pub signed : Asked → ℕ → List ℕ → Answer
signed a created out = sign_answer (sign_number a created out) (sign_text a created) out

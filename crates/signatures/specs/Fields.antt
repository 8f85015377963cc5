-- The two fields, as they are written and as they are read: RFC 9421, 4.1 and 4.2. Each is a dictionary with one member, whose key is the label.
-- Assumes nothing.
use Rattle.std.specs.Prelude.{ℕ, ◌+◌, List, [], ◌∷◌, ◌++◌, Bool, false, ◌&&◌, length, take, drop, eqb}
use Rattle.cells.specs.Text.{codes}
use Rattle.cells.specs.Runs.{part, same}
use Rattle.cells.specs.Spans.{all, leading}
use Rattle.cells.specs.Decimal.{value_after}
use Rattle.names.specs.Extra.{extra_names as listed}
use Rattle.lines.specs.Lines.{colon, CR, LF}
use Rattle.base_64.specs.Encoding.{encoded}
use Rattle.base_64.specs.Decoding.{Decoding, nothing, bytes, decoded}
use Rattle.structured.specs.Texts.{closing, is_key, printable}
use Rattle.structured.specs.Reading.{unescaped, unlisted, digits_in, other, but_last}
use Rattle.signatures.specs.Components.{all_components}
use Rattle.signatures.specs.Base.{params}

abbrev pub equals : ℕ
equals = 61

unfoldable pub input_value : List ℕ → List ℕ → ℕ → List ℕ → List ℕ
input_value label names created key_id = label ++ (equals ∷ params names created key_id)

-- RFC 8941, 4.1.8: a byte sequence is its base64 between colons
unfoldable pub signature_text : List ℕ → List ℕ → List ℕ
signature_text label code = label ++ (equals ∷ colon ∷ (code ++ (colon ∷ [])))

unfoldable pub signature_value : List ℕ → List ℕ → List ℕ
signature_value label code = signature_text label (encoded code)

unfoldable pub field_lines : List ℕ → List ℕ → List ℕ
field_lines input signature = codes "Signature-Input: " ++ (input ++ (CR ∷ LF ∷ (codes "Signature: " ++ (signature ++ (CR ∷ LF ∷ [])))))

-- what the values tell, whatever stands there: the label is what stands before the first =
unfoldable pub label_in : List ℕ → List ℕ
label_in value = take (leading (other equals) value) value

-- what stands past =(
unfoldable pub list_in : List ℕ → List ℕ
list_in input = drop (leading (other equals) input + 2) input

-- the names of the list, joined by commas
unfoldable pub covered_in : List ℕ → List ℕ
covered_in input = unlisted (take (leading (other closing) (list_in input)) (list_in input))

-- past );created=
unfoldable pub created_in : List ℕ → List ℕ
created_in input = drop (leading (other closing) (list_in input) + 10) (list_in input)

unfoldable pub time_in : List ℕ → ℕ
time_in input = value_after 0 (take (digits_in (created_in input)) (created_in input))

-- past ;keyid="
unfoldable pub key_in : List ℕ → List ℕ
key_in input = drop (digits_in (created_in input) + 8) (created_in input)

unfoldable pub key_id_in : List ℕ → List ℕ
key_id_in input = unescaped (but_last (key_in input))

-- the value is what is written of what it tells
unfoldable pub good_input : List ℕ → Bool
good_input input =
    is_key (label_in input)
    && (all_components (listed (covered_in input))
    && (all printable (key_id_in input)
    && same (input_value (label_in input) (covered_in input) (time_in input) (key_id_in input)) input))

unfoldable pub code_in : List ℕ → List ℕ
code_in signature = part signature (leading (other equals) signature + 2) 44

abbrev pub of_digest : Decoding → Bool
of_digest nothing = false
of_digest (bytes bs) = eqb (length bs) 32

unfoldable pub good_signature : List ℕ → Bool
good_signature signature =
    is_key (label_in signature)
    && (of_digest (decoded (code_in signature))
    && same (signature_text (label_in signature) (code_in signature)) signature)

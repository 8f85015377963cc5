-- What the code's own steps take and answer.
-- Assumes nothing.
use Rattle.std.specs.Prelude.{ℕ, ◌≤◌, ◌≡◌, List, [], ◌∷◌, ◌++◌, false, length, take, Option, None, Some}
use Rattle.names.specs.Extra.{extra_names as listed}
use Rattle.lines.specs.Values.{joined}
use Rattle.structured.specs.Texts.{quote, string}
use Rattle.signatures.specs.Components as C
use Rattle.signatures.specs.Components.{Message, message_of, no_value, all_printable}
use Rattle.signatures.specs.Fields.{input_value, label_in, covered_in, time_in, key_id_in}
use Rattle.signatures.specs.declared.message.Message as M
use Rattle.signatures.specs.declared.input.Input.{Input}
use Rattle.signatures.specs.declared.components.Looked.{Looked}
use Rattle.signatures.specs.declared.reading.Told.{Told}

-- the message that is lent
abbrev pub message_in : M.Message → Message
message_in m = message_of m.method.now m.authority.now m.path.now m.lines.now

-- each value fits in a buffer of 16,384 bytes
pub record ShortMessage (m : Message) : Type 0 where
  pub method : length m.method ≤ 16384
  pub authority : length m.authority ≤ 16384
  pub path : length m.path ≤ 16384
  pub lines : length m.lines ≤ 16384

-- nothing in the text is escaped
abbrev pub Quoted : List ℕ → Type 0
Quoted text = string text ≡ quote ∷ (text ++ (quote ∷ []))

-- the buffer has at its front the value of a component with these values, if there are any
pub record ValueOf (values : List (List ℕ)) (left : List ℕ) (size : ℕ) : Type 0 where
  pub some : no_value values ≡ false
  pub within : size ≤ length left
  pub is : take size left ≡ joined values

abbrev pub ValueIs : List (List ℕ) → List ℕ → Option ℕ → Type 0
ValueIs values left (Some size) = ValueOf values left size
ValueIs values left None = values ≡ []

-- what is found of a list
pub record LookedAt (m : Message) (names : List ℕ) (r : Looked) : Type 0 where
  pub printable : r.printable ≡ all_printable m (listed names)
  pub twice : r.twice ≡ C.twice (listed names)
  pub missing : r.missing ≡ C.missing m (listed names)

-- the value of Signature-Input with these parts
abbrev pub value_of_input : Input → List ℕ
value_of_input input = input_value input.label.now input.names.now input.created input.key_id.now

-- these are what a value of Signature-Input tells
pub record Tells (text : List ℕ) (r : Input) : Type 0 where
  pub label : r.label.now ≡ label_in text
  pub names : r.names.now ≡ covered_in text
  pub created : r.created ≡ time_in text
  pub key_id : r.key_id.now ≡ key_id_in text

-- and they stand at the fronts of the value and of two buffers
pub record ToldIs (text names' key_id' : List ℕ) (r : Told) : Type 0 where
  pub labelled : r.label ≤ length text
  pub few : r.names ≤ length names'
  pub short : r.key_id ≤ length key_id'
  pub label : take r.label text ≡ label_in text
  pub names : take r.names names' ≡ covered_in text
  pub created : r.created ≡ time_in text
  pub key_id : take r.key_id key_id' ≡ key_id_in text

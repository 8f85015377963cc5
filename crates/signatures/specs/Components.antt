-- What may be signed of a message, and its values: RFC 9421, 2.1 and 2.2.
-- Assumes nothing.
use Rattle.std.specs.Prelude.{ℕ, List, [], ◌∷◌, Bool, true, false, not, cond, ◌&&◌, ◌||◌}
use Rattle.cells.specs.Text.{codes}
use Rattle.cells.specs.Runs.{same}
use Rattle.cells.specs.Spans.{all}
use Rattle.names.specs.Names.{between, is_token, has_name}
use Rattle.lines.specs.Lines.{lines_in, good_block}
use Rattle.lines.specs.Values.{values_in, joined}
use Rattle.structured.specs.Texts.{printable}
use Rattle.structured.specs.Lists.{every}

pub record Message : Type 0 where
  pub method : List ℕ
  pub authority : List ℕ
  pub path : List ℕ
  pub lines : List ℕ

abbrev pub message_of : List ℕ → List ℕ → List ℕ → List ℕ → Message
message_of method authority path lines = record { method = method; authority = authority; path = path; lines = lines }

abbrev pub visible : ℕ → Bool
visible b = between 33 126 b

-- no letter of upper case
abbrev pub small : ℕ → Bool
small b = not (between 65 90 b)

-- 2.2.3: the authority is normalised, and so has no letter of upper case
unfoldable pub good_message : Message → Bool
good_message m =
    is_token m.method
    && (all visible m.authority
    && (all small m.authority
    && (all visible m.path
    && good_block m.lines)))

-- 2.2.1, 2.2.3 and 2.2.6
unfoldable pub is_derived : List ℕ → Bool
is_derived name = same (codes "@method") name || (same (codes "@authority") name || same (codes "@path") name)

-- 2.1: a field's name in lower case
unfoldable pub is_field : List ℕ → Bool
is_field name = is_token name && all small name

unfoldable pub is_component : List ℕ → Bool
is_component name = is_derived name || is_field name

-- one value of a derived component, and of a field one for each of its lines, in order
unfoldable pub values_of : Message → List ℕ → List (List ℕ)
values_of m name =
    cond (same (codes "@method") name) (m.method ∷ [])
    (cond (same (codes "@authority") name) (m.authority ∷ [])
    (cond (same (codes "@path") name) (m.path ∷ [])
    (values_in (lines_in m.lines) name)))

-- 2.1: joined by a comma and a blank
unfoldable pub value_of : Message → List ℕ → List ℕ
value_of m name = joined (values_of m name)

abbrev pub no_value : List (List ℕ) → Bool
no_value [] = true
no_value (v ∷ vs) = false

-- 2.5: a component that the message does not have
unfoldable pub missing : Message → List (List ℕ) → Bool
missing m [] = false
missing m (n ∷ ns) = no_value (values_of m n) || missing m ns

-- 2.5: a component that stands twice in the list
unfoldable pub twice : List (List ℕ) → Bool
twice [] = false
twice (n ∷ ns) = has_name ns n || twice ns

-- the names are components, and their values printable, so that no line feed parts a value
unfoldable pub all_components : List (List ℕ) → Bool
all_components ns = every is_component ns

unfoldable pub all_printable : Message → List (List ℕ) → Bool
all_printable m ns = every (λ (n : List ℕ). all printable (value_of m n)) ns

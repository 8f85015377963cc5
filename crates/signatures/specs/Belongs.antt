-- Which base belongs to a message and its parameters, told by RFC 9421, 2.5, step by step: `exactly_one` and `none_of` of proofs/Once.antt are about it.
-- Assumes nothing.
use Rattle.std.specs.Prelude.{ℕ, ◌≡◌, List, [], ◌∷◌, ◌++◌, false}
use Rattle.names.specs.Extra.{extra_names as listed}
use Rattle.signatures.specs.Components.{Message, values_of, no_value, value_of, twice}
use Rattle.signatures.specs.Base.{params, component_line, last_line}

-- the lines of components, each of which the message has
pub data LinesOf (m : Message) : List (List ℕ) → List ℕ → Type 0 where
  none : LinesOf m [] []
  line : {n v : List ℕ} {ns : List (List ℕ)} {text : List ℕ} → no_value (values_of m n) ≡ false → v ≡ value_of m n → LinesOf m ns text
      → LinesOf m (n ∷ ns) (component_line n v ++ text)

-- no component stands twice, their lines come first, and then the parameters'
pub record BaseOf (m : Message) (names : List ℕ) (created : ℕ) (key_id text : List ℕ) : Type 0 where
  pub once : twice (listed names) ≡ false
  pub lines : List ℕ
  pub are : LinesOf m (listed names) lines
  pub is : text ≡ lines ++ last_line (params names created key_id)

pub record ExactlyOne (P : List ℕ → Type 0) : Type 0 where
  pub text : List ℕ
  pub belongs : P text
  pub only : (other : List ℕ) → P other → other ≡ text

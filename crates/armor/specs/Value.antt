-- The fields of an X-S-Armor value: document 01, The X-S-Armor value.
-- `ValueOf` says what the text of some fields is; `grammar` finds the fields, and `grammar_exactly` of proofs/Value.antt says that the two agree.
-- Assumes nothing.
use Rattle.std.specs.Prelude.{◌≡◌, ◌⊎◌, Bool, true, false, cond, ◌&&◌, List, [], ◌∷◌, ◌++◌, ℕ, ◌<◌, leb, length}
use Rattle.std.proofs.Math.Option.{Option, none, some, get_or}
use Rattle.cells.specs.Runs.{Bytes}
use Rattle.base_64.specs.Encoding.{encoded}
use Rattle.base_64.specs.Decoding.{Decoding, nothing, bytes, decoded}
use Rattle.armor.specs.Pieces.{colon, semicolon, up_to, after, pieces, Without}
use Rattle.armor.specs.Keys.{Rule, obeys, rule_of}

pub record Field : Type 0 where
  pub key : List ℕ
  pub bytes : List ℕ

abbrev pub field : List ℕ → List ℕ → Field
field name content = record { key = name; bytes = content }

-- a key has at least one byte, and neither : nor ;. What it holds is not empty
pub record Formed (f : Field) : Type 0 where
  pub named : 0 < length f.key
  pub no_colon : Without colon f.key
  pub no_semicolon : Without semicolon f.key
  pub held : 0 < length f.bytes
  pub of_bytes : Bytes f.bytes

abbrev pub AllFormed : List Field → Type 0
AllFormed [] = Unit
AllFormed (f ∷ fs) = Formed f × AllFormed fs

-- key:base64
unfoldable pub field_text : Field → List ℕ
field_text f = f.key ++ colon ∷ encoded f.bytes

-- texts with ; between them
unfoldable pub joined : List (List ℕ) → List ℕ
joined [] = []
joined (p ∷ []) = p
joined (p ∷ q ∷ ps) = p ++ semicolon ∷ joined (q ∷ ps)

unfoldable pub texts_of : List Field → List (List ℕ)
texts_of [] = []
texts_of (f ∷ fs) = field_text f ∷ texts_of fs

-- the text of fields that stand after others
unfoldable pub following : List Field → List ℕ
following [] = []
following (f ∷ fs) = semicolon ∷ (field_text f ++ following fs)

-- whether fields keep their keys' rules
unfoldable pub all_good : List Field → Bool
all_good [] = true
all_good (f ∷ fs) = obeys (rule_of f.key) f.bytes && all_good fs

-- a value has one or more fields; one closing ; is allowed
pub record ValueOf (v : List ℕ) (fs : List Field) : Type 0 where
  pub one_or_more : 0 < length fs
  pub formed : AllFormed fs
  pub text : (v ≡ joined (texts_of fs)) ⊎ (v ≡ joined (texts_of fs) ++ semicolon ∷ [])

-- whether what a text encodes is not empty and keeps a rule
abbrev pub decoded_obeys : Rule → Decoding → Bool
decoded_obeys rule nothing = false
decoded_obeys rule (bytes bs) = leb 1 (length bs) && obeys rule bs

unfoldable pub text_obeys : Rule → List ℕ → Bool
text_obeys rule text = decoded_obeys rule (decoded text)

abbrev pub held : Decoding → List ℕ
held nothing = []
held (bytes bs) = bs

-- what a text encodes, and nothing where it encodes nothing
abbrev pub told : List ℕ → List ℕ
told text = held (decoded text)

-- whether a piece has a key, which ends at the first colon, and after it what the key's rule asks
unfoldable pub piece_good : List ℕ → Bool
piece_good piece = leb 1 (length (up_to colon piece)) && text_obeys (rule_of (up_to colon piece)) (after colon piece)

-- the field of a good piece
abbrev pub piece_field : List ℕ → Field
piece_field piece = field (up_to colon piece) (held (decoded (after colon piece)))

unfoldable pub field_of : List ℕ → Option Field
field_of piece = cond (piece_good piece) (some (piece_field piece)) none

abbrev pub with_field : Option Field → Option (List Field) → Option (List Field)
with_field none o = none
with_field (some f) none = none
with_field (some f) (some fs) = some (f ∷ fs)

unfoldable pub fields_in : List (List ℕ) → Option (List Field)
fields_in [] = some []
fields_in (p ∷ ps) = with_field (field_of p) (fields_in ps)

-- the fields of a value that keeps its grammar
unfoldable pub grammar : List ℕ → Option (List Field)
grammar [] = none
grammar (x ∷ xs) = fields_in (pieces (x ∷ xs))

unfoldable pub carried : List ℕ → List Field
carried v = get_or (grammar v) []

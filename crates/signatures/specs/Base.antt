-- The signature base and its code: RFC 9421, 2.3, 2.5 and 3.3.3. The list of components is a run that joins their names by commas.
-- Assumes nothing.
use Rattle.std.specs.Prelude.{ℕ, List, [], ◌∷◌, ◌++◌}
use Rattle.cells.specs.Text.{codes}
use Rattle.cells.specs.Decimal.{decimal}
use Rattle.names.specs.Extra.{extra_names as listed}
use Rattle.lines.specs.Lines.{LF}
use Rattle.hashes.specs.declared.Hash.TheVariants.{Sha256}
use Rattle.hmac.specs.Hmac.{hmac_of}
use Rattle.structured.specs.Texts.{string, inner_list}
use Rattle.signatures.specs.Components.{Message, value_of}

-- 2.3: the list, when the signature was created, and the key's id
unfoldable pub params : List ℕ → ℕ → List ℕ → List ℕ
params names created key_id =
    inner_list (listed names) ++ (codes ";created=" ++ (decimal created ++ (codes ";keyid=" ++ string key_id)))

-- 2.5: a component's line
unfoldable pub component_line : List ℕ → List ℕ → List ℕ
component_line name value = string name ++ (codes ": " ++ (value ++ (LF ∷ [])))

unfoldable pub component_lines : Message → List (List ℕ) → List ℕ
component_lines m [] = []
component_lines m (n ∷ ns) = component_line n (value_of m n) ++ component_lines m ns

-- 2.5: and last the parameters'
unfoldable pub last_line : List ℕ → List ℕ
last_line ps = string (codes "@signature-params") ++ (codes ": " ++ ps)

unfoldable pub base_with : Message → List ℕ → List ℕ → List ℕ
base_with m names ps = component_lines m (listed names) ++ last_line ps

unfoldable pub base : Message → List ℕ → ℕ → List ℕ → List ℕ
base m names created key_id = base_with m names (params names created key_id)

-- 3.3.3: HMAC over SHA-256
unfoldable pub code_of : List ℕ → List ℕ → List ℕ
code_of key text = hmac_of Sha256 key text

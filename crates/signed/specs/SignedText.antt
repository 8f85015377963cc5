-- The signed text: document 01, 'Header lines and the signed text', and document 02, K2, for h, and K3, for the method.
-- Assumes nothing.
use Rattle.std.specs.Prelude.{ℕ, ◌%◌, List, [], ◌∷◌, ◌++◌, map, Bool, cond, eqb}
use Rattle.std.proofs.Math.Option.{Option, none, some}
use Rattle.netstring.specs.Netstring.{netstrings}
use Rattle.hashes.specs.declared.Hash.{Hash}
use Rattle.hashes.specs.Hashes.{hash_mask}
use Rattle.armor.specs.Numerals.{number_bytes, mask_bytes}
use Rattle.names.specs.Covered.{covered_names}
use Rattle.lines.specs.Lines.{lines_in}
use Rattle.lines.specs.Values.{covered_value}

-- what is signed, h to lt as decoded bytes; the values are the covered ones and then the extra ones
pub record Signed : Type 0 where
  pub method : List ℕ
  pub h : List ℕ
  pub ah : List ℕ
  pub eah : List ℕ
  pub n : Option (List ℕ)
  pub t : List ℕ
  pub lt : List ℕ
  pub values : List (List ℕ)
  pub path : List ℕ
  pub body : List ℕ

-- n if carried
abbrev pub carried : Option (List ℕ) → List (List ℕ)
carried (some n) = n ∷ []
carried none = []

unfoldable pub signed_parts : Signed → List (List ℕ)
signed_parts s =
    s.method ∷ s.h ∷ s.ah ∷ s.eah ∷ (carried s.n ++ (s.t ∷ s.lt ∷ (s.values ++ (s.path ∷ s.body ∷ []))))

-- these netstrings in a row
unfoldable pub signed_text : Signed → List ℕ
signed_text s = netstrings (signed_parts s)

-- bit 0 of ah orders nonces
abbrev pub orders_nonce : ℕ → Bool
orders_nonce mask = eqb (mask % 2) 1

unfoldable pub nonce_of : ℕ → ℕ → Option (List ℕ)
nonce_of mask n = cond (orders_nonce mask) (some (number_bytes n)) none

-- the values of the names that the orders cover, from the set-aside lines and the head
unfoldable pub covered_values : ℕ → List ℕ → List ℕ → List ℕ → List (List ℕ)
covered_values mask extra aside head = map (covered_value (lines_in aside) (lines_in head)) (covered_names mask extra)

-- what is signed of a request whose h, ah and eah are those of the orders; without extra names eah is absent, which is empty
unfoldable pub signed_of : List ℕ → Hash → ℕ → List ℕ → ℕ → ℕ → ℕ → List ℕ → List ℕ → List ℕ → List ℕ → Signed
signed_of method hash mask extra n t lt aside head path body = record {
  method = method;
  h = mask_bytes (hash_mask hash);
  ah = mask_bytes mask;
  eah = extra;
  n = nonce_of mask n;
  t = number_bytes t;
  lt = number_bytes lt;
  values = covered_values mask extra aside head;
  path = path;
  body = body;
}

unfoldable pub request_text : List ℕ → Hash → ℕ → List ℕ → ℕ → ℕ → ℕ → List ℕ → List ℕ → List ℕ → List ℕ → List ℕ
request_text method hash mask extra n t lt aside head path body = signed_text (signed_of method hash mask extra n t lt aside head path body)

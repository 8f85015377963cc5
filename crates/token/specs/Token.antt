-- The token s: document 01, 'The X-S-Armor value', its paragraph on the setup reply, and number 9.
-- `token_text` says what the text of a token is; `token_in` finds the token, and `token_exactly` of proofs/Exactly.antt says that the two agree.
-- Assumes nothing.
use Rattle.std.specs.Prelude.{Bool, true, false, cond, ◌&&◌, List, [], ◌∷◌, ℕ, suc, ◌^◌, eqb, leb, ltb, length, take, drop}
use Rattle.std.proofs.Math.Option.{Option, none, some}
use Rattle.cells.specs.Runs.{same}
use Rattle.gcm.specs.Gcm.{Sealed, sealed, opened}
use Rattle.cells.specs.Decimal.{decimal, value_after}
use Rattle.netstring.specs.Netstring.{colon, netstring, netstrings}

-- session key, session id, expiry
pub record Token : Type 0 where
  pub key : List ℕ
  pub id : List ℕ
  pub expiry : ℕ

-- each within its size or range
unfoldable pub fits : Token → Bool
fits t = eqb (length t.key) 32 && (leb 1 (length t.id) && (leb (length t.id) 64 && ltb t.expiry (2 ^ 32)))

-- three netstrings, the expiry in decimal without leading zeros
unfoldable pub token_text : Token → List ℕ
token_text t = netstrings (t.key ∷ t.id ∷ decimal t.expiry ∷ [])

-- sealed under server key and IV with no associated data
unfoldable pub sealed_token : List ℕ → List ℕ → Token → Sealed
sealed_token server_key iv t = sealed server_key iv [] (token_text t)

-- what stands before the first colon
unfoldable pub before_colon : List ℕ → List ℕ
before_colon [] = []
before_colon (b ∷ bs) = cond (eqb b colon) [] (b ∷ before_colon bs)

-- the part whose netstring a run begins with, if it begins with one, and what stands after it
unfoldable pub front_part : List ℕ → List ℕ
front_part run = take (value_after 0 (before_colon run)) (drop (suc (length (before_colon run))) run)

unfoldable pub after_part : List ℕ → List ℕ
after_part run = drop (length (netstring (front_part run))) run

-- the only token that a text can be
unfoldable pub candidate : List ℕ → Token
candidate text = record {
  key = front_part text;
  id = front_part (after_part text);
  expiry = value_after 0 (front_part (after_part (after_part text)));
}

-- the token whose text this is
unfoldable pub token_in : List ℕ → Option Token
token_in text = cond (fits (candidate text) && same text (token_text (candidate text))) (some (candidate text)) none

abbrev pub token_from : Option (List ℕ) → Option Token
token_from none = none
token_from (some text) = token_in text

-- the token of s, opened under server key, IV and tag
unfoldable pub opened_token : List ℕ → List ℕ → List ℕ → List ℕ → Option Token
opened_token server_key iv s tag = token_from (opened server_key iv [] s tag)

abbrev pub has_token : Option Token → Bool
has_token none = false
has_token (some t) = true

-- an empty token where there is none
abbrev pub the_token : Option Token → Token
the_token none = record { key = []; id = []; expiry = 0 }
the_token (some t) = t

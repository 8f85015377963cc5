-- The text of a token, and the token that is found in a text, belong together; so do sealing a token and opening it.
-- Assumes nothing.
use mathlib.Core.Bool.{Bool, true, false, cond, ◌&&◌, and-eq-true_iff}
use mathlib.Core.List.{List, []}
use mathlib.Core.Option.{Option, none, some}
use mathlib.Core.Path.{◌≡◌, refl, sym, ap, ◌∙◌}
use Prim.Native.Nat.{ℕ}
use borrow.Author.Tests.{eqb-true, leb-true, ltb-true, eq-eqb, le-leb, lt-ltb}
use Rattle.cells.specs.Runs.{same}
use Rattle.cells.proofs.Equality.{same_equal, same_self}
use Rattle.gcm.proofs.Opening.{opened_sealed}
use Rattle.netstring.specs.Netstring.{netstrings}
use Rattle.cells.proofs.Digits.{value_decimal}
use Rattle.token.specs.Token.{Token, fits, token_text, sealed_token, candidate, token_in, token_from, opened_token}
use Rattle.token.proofs.Fronts.{front_part_lem, after_part_lem}
use Rattle.token.proofs.Text.{Sized}

-- what it says that a token fits
pub fits_means : (t : Token) → fits t ≡ true → Sized t.key t.id t.expiry
unfolding fits
fits_means t h =
    let one = (and-eq-true_iff _ _).0 h in
    let two = (and-eq-true_iff _ _).0 one.1 in
    let three = (and-eq-true_iff _ _).0 two.1 in
    record { key_size = eqb-true _ _ one.0; id_some = leb-true _ _ two.0; id_fits = leb-true _ _ three.0; in_range = ltb-true _ _ three.1 }

pub fits_so : (t : Token) → Sized t.key t.id t.expiry → fits t ≡ true
unfolding fits
fits_so t f = simp (eq-eqb _ _ f.key_size, le-leb _ _ f.id_some, le-leb _ _ f.id_fits, lt-ltb _ _ f.in_range)

-- the only token that its text can be is it
candidate_found : (t : Token) → candidate (token_text t) ≡ t
unfolding candidate token_text netstrings
candidate_found t = simp (front_part_lem, after_part_lem, value_decimal)

-- a text in which a token is found is that token's, and the token is within its sizes
pub token_exactly : (text : List ℕ) (t : Token) → token_in text ≡ some t → (text ≡ token_text t) × (fits t ≡ true)
unfolding token_in
token_exactly text t e = by _ refl e
  where
    by : (b : Bool) → (fits (candidate text) && same text (token_text (candidate text))) ≡ b → cond b (some (candidate text)) none ≡ some t
        → (text ≡ token_text t) × (fits t ≡ true)
    by true p f =
        let parts : (fits (candidate text) ≡ true) × (same text (token_text (candidate text)) ≡ true) = (and-eq-true_iff _ _).0 p in
        let it : candidate text ≡ t = cc in
        (same_equal text (token_text (candidate text)) parts.1 ∙ ap token_text it, ap fits (sym it) ∙ parts.0)
    by false p f = (cc, cc)

-- and the token is found in its text
pub token_found : (t : Token) → fits t ≡ true → token_in (token_text t) ≡ some t
unfolding token_in
token_found t h =
    ap (λ (c : Token). cond (fits c && same (token_text t) (token_text c)) (some c) none) (candidate_found t)
    ∙ simp (h, same_self (token_text t))

-- where the text is that of no token within its sizes, none is found
pub no_token : (text : List ℕ) → ((t : Token) → fits t ≡ true → text ≡ token_text t → ⊥) → token_in text ≡ none
no_token text never = by (token_in text) refl
  where
    by : (o : Option Token) → token_in text ≡ o → o ≡ none
    by none e = refl
    by (some t) e = let found = token_exactly text t e in absurd (never t found.1 found.0)

-- what setup seals, judge opens
pub opened_token_lem : (server_key iv : List ℕ) (t : Token) → fits t ≡ true
    → opened_token server_key iv (sealed_token server_key iv t).cipher (sealed_token server_key iv t).tag ≡ some t
unfolding opened_token sealed_token
opened_token_lem server_key iv t h = ap token_from (opened_sealed server_key iv [] (token_text t)) ∙ token_found t h

-- What a reader of a token's text knows on its way: the parts that it has passed, and what is left.
-- Assumes nothing.
use mathlib.Core.Bool.{true, false}
use mathlib.Core.List.{List, [], ◌∷◌, ◌++◌, append_assoc, append-nil}
use mathlib.Core.Option.{Option, none, some}
use mathlib.Core.Path.{◌≡◌, refl, sym, ap, subst, ◌∙◌}
use Prim.Native.Nat.{ℕ, suc, ◌≤◌, ◌<◌}
use native.Mathlib.Omega.{arith}
use lib.ListN.{length, get_or, take, drop, take-append-drop, drop_of_length-le}
use lib.Seq.{length-take-le, drop-cons}
use Rattle.std.specs.Prelude.{is_ok, Some, None}
use Rattle.gcm.specs.InnerCode.{answer, left}
use Rattle.cells.specs.Decimal.{decimal}
use Rattle.netstring.specs.Netstring.{netstrings}
use Rattle.netstring.specs.InnerReading.{PartAt, NoPart}
use Rattle.netstring.proofs.Determined.{netstrings_determined, netstrings_append}
use Rattle.token.specs.declared.Token.{Token as Held}
use Rattle.token.specs.Token.{Token, token_text, token_in, token_from, has_token, the_token}
use Rattle.token.specs.InnerHeld.{IsToken, Unseals}
use Rattle.token.proofs.Text.{Sized}
use Rattle.token.proofs.Exactly.{fits_means, fits_so, token_found, no_token}

-- what opening answers says whether there is a text to look into
pub from_text : (o : Option (List ℕ)) (old : List ℕ) → is_ok (answer o) ≡ true → token_from o ≡ token_in (left o old)
from_text none old e = cc
from_text (some text) old e = refl

pub from_wrong : (o : Option (List ℕ)) → is_ok (answer o) ≡ false → token_from o ≡ none
from_wrong none e = refl
from_wrong (some text) e = cc

-- an answer of no token
pub unseals_none : {o : Option Token} → o ≡ none → Unseals o None
unseals_none e = ap has_token e

-- an answer of one
pub unseals_some : {o : Option Token} {t : Token} {r : Held} → o ≡ some t → IsToken t r → Unseals o (Some r)
unseals_some {r = r} e holds = (ap has_token e, subst (λ (p : Option Token). IsToken (the_token p) r) (sym e) holds)

abbrev parts : Token → List (List ℕ)
parts t = t.key ∷ t.id ∷ decimal t.expiry ∷ []

-- the text of three parts
module _ (key id digits : List ℕ) where
  abbrev three : List ℕ
  three = netstrings (key ∷ id ∷ digits ∷ [])

  pub token_of_lem : (n : ℕ) → Sized key id n → digits ≡ decimal n → token_in three ≡ some (record { key = key; id = id; expiry = n })
  unfolding token_text
  token_of_lem n s e =
      let t : Token = record { key = key; id = id; expiry = n } in
      ap (λ (l : List ℕ). token_in (netstrings (key ∷ id ∷ l ∷ []))) e ∙ token_found t (fits_so t s)

  pub no_token_of : ((n : ℕ) → Sized key id n → digits ≡ decimal n → ⊥) → Unseals (token_in three) None
  unfolding token_text
  no_token_of never =
      unseals_none (no_token three (λ t fit e.
      let same : key ∷ id ∷ digits ∷ [] ≡ parts t =
      (netstrings_determined (key ∷ id ∷ digits ∷ []) (parts t) [] [] refl (append-nil _ ∙ e ∙ sym (append-nil _))).0
      in
      let one : key ≡ t.key = cc in
      let two : id ≡ t.id = cc in
      let s = fits_means t fit in
      never t.expiry (record { key_size = ap length one ∙ s.key_size; id_some = rw two s.id_some; id_fits = rw two s.id_fits; in_range = s.in_range }) (cc)))

-- these parts stand before what is left
pub record Passed (text : List ℕ) (xs : List (List ℕ)) (rest : List ℕ) : Type 0 where
  pub is : text ≡ netstrings xs ++ rest

pub none_passed : {text : List ℕ} → Passed text [] text
unfolding netstrings
none_passed = record { is = refl }

module _ {text : List ℕ} {xs : List (List ℕ)} {rest : List ℕ} (so : Passed text xs rest) where
  pub passed_more : (bytes after : List ℕ) → PartAt rest bytes after → Passed text (xs ++ (bytes ∷ [])) after
  unfolding netstrings
  passed_more bytes after p = record { is = so.is ∙ ap (λ (l : List ℕ). netstrings xs ++ l) p ∙ simp (netstrings_append, append_assoc) }

  -- what is left is the rest of a token's parts
  left_over : length xs ≤ 3 → (t : Token) → text ≡ token_text t → rest ≡ netstrings (drop (length xs) (parts t))
  unfolding token_text
  left_over few t e =
      (netstrings_determined xs (take (length xs) (parts t)) rest (netstrings (drop (length xs) (parts t)))
      (sym (length-take-le (length xs) (parts t) few))
      (sym so.is ∙ e ∙ ap netstrings (sym (take-append-drop (length xs) (parts t))) ∙ netstrings_append (take (length xs) (parts t)) (drop (length xs) (parts t)))).1

  pub no_part : length xs < 3 → NoPart rest → Unseals (token_in text) None
  unfolding netstrings
  no_part few missing =
      unseals_none (no_token text (λ t fit e.
      missing (get_or (parts t) (length xs) []) (netstrings (drop (suc (length xs)) (parts t)))
      (left_over (omega arith) t e ∙ ap netstrings (drop-cons (parts t) (length xs) [] few))))

  pub more_follows : length xs ≡ 3 → 0 < length rest → Unseals (token_in text) None
  unfolding netstrings
  more_follows all more =
      unseals_none (no_token text (λ t fit e.
      let left : rest ≡ [] = left_over (omega arith) t e ∙ ap (λ (n : ℕ). netstrings (drop n (parts t))) all in
      omega (arith, ap length left)))

  pub all_passed : length rest ≡ 0 → text ≡ netstrings xs
  all_passed end = so.is ∙ ap (λ (l : List ℕ). netstrings xs ++ l) (drop_of_length-le rest {i = 0} (omega arith)) ∙ append-nil (netstrings xs)

-- Laws of a state that takes in netstrings, one part after the other.
-- Assumes nothing.
use mathlib.Core.Path.{◌≡◌, refl, sym, ap, subst, ◌∙◌}
use mathlib.Core.List.{List, [], ◌∷◌, ◌++◌, append_assoc, append-nil}
use Prim.Native.Nat.{ℕ, ◌+◌}
use native.Mathlib.Omega.{arith}
use lib.ListN.{length, length-append}
use Rattle.sha_2.specs.declared.State.{State}
use Rattle.sha_2.specs.InnerTaken.{TookIn}
use Rattle.sha_2.proofs.Streaming.{took_in_turn}
use Rattle.netstring.specs.Netstring.{comma, netstring, netstrings}
use Rattle.netstring.specs.InnerOpening.{opening}
use Rattle.netstring.proofs.Laid.{netstring_pieces, length_pieces}
use Rattle.netstring.proofs.Determined.{netstrings_append}
use Rattle.hashes.specs.declared.Hash.{Hash}
use Rattle.hashes.specs.Hashes.{hash_mask}
use Rattle.armor.specs.Numerals.{number_bytes, mask_bytes}
use Rattle.signed.specs.SignedText.{carried, signed_parts, signed_text, nonce_of, covered_values, signed_of, request_text}
use Rattle.signed.specs.InnerStreamed.{Room, TookParts, opening_parts}

-- no parts
pub took_none : (s : State) → TookParts s [] s
unfolding netstrings
took_none s = record { is = refl; counted = omega arith; appended = λ h m taken. rw append-nil taken }

-- some parts, and then others
pub took_then : {s t r : State} (xs ys : List (List ℕ)) → TookParts s xs t → TookParts t ys r → TookParts s (xs ++ ys) r
took_then {s = s} {t = t} {r = r} xs ys p q =
    subst (λ (l : List ℕ). TookIn s l r) (sym (netstrings_append xs ys)) (took_in_turn s t r (netstrings xs) (netstrings ys) p q)

abbrev pub size : List (List ℕ) → ℕ
size parts = length (netstrings parts)

pub size_append : (xs ys : List (List ℕ)) → size (xs ++ ys) ≡ size xs + size ys
size_append xs ys = ap length (netstrings_append xs ys) ∙ length-append (netstrings xs) (netstrings ys)

-- room for parts in a row
pub room_first : (s : State) (xs ys : List (List ℕ)) → Room s (xs ++ ys) → Room s xs
room_first s xs ys h = omega (arith, size_append xs ys)

pub room_rest : {s t : State} (xs ys : List (List ℕ)) → Room s (xs ++ ys) → TookParts s xs t → Room t ys
room_rest xs ys h p = omega (arith, size_append xs ys)

pub netstrings_one : (part : List ℕ) → netstrings (part ∷ []) ≡ netstring part
unfolding netstrings
netstrings_one part = append-nil (netstring part)

pub size_one : (part : List ℕ) → size (part ∷ []) ≡ length (netstring part)
size_one part = ap length (netstrings_one part)

-- a netstring's three pieces, as they are taken in, and how long they are
module _ (part : List ℕ) {piece : List ℕ} (opens : piece ≡ opening (length part)) where
  pub pieces_size : size (part ∷ []) ≡ length piece + length part + 1
  pieces_size = size_one part ∙ length_pieces part opens

  pub took_netstring : {s t u r : State} → TookIn s piece t → TookIn t part u → TookIn u (comma ∷ []) r → TookParts s (part ∷ []) r
  took_netstring {s} {t} {u} {r} p q e =
      subst (λ (l : List ℕ). TookIn s l r)
      (ap (λ (l : List ℕ). (l ++ part) ++ (comma ∷ [])) opens ∙ netstring_pieces part ∙ sym (netstrings_one part))
      (took_in_turn s u r (piece ++ part) (comma ∷ []) (took_in_turn s t u piece part p q) e)

pub opening_size : (hash : Hash) (mask n t lt : ℕ) (method extra : List ℕ) → size (opening_parts method hash mask extra n t lt)
    ≡ size (method ∷ []) + size (mask_bytes (hash_mask hash) ∷ []) + size (mask_bytes mask ∷ []) + size (extra ∷ []) + size (carried (nonce_of mask n)) + size (number_bytes t ∷ []) + size (number_bytes lt ∷ [])
unfolding netstrings
opening_size hash mask n t lt method extra = simp (netstrings_append, length-append) (omega arith)

-- all the parts in a row are the signed text
pub parts_joined : (hash : Hash) (mask n t lt : ℕ) (method extra aside head path body : List ℕ)
    → netstrings (opening_parts method hash mask extra n t lt ++ (covered_values mask extra aside head ++ (path ∷ body ∷ []))) ≡ request_text method hash mask extra n t lt aside head path body
unfolding request_text signed_text signed_parts signed_of
parts_joined hash mask n t lt method extra aside head path body =
    ap (λ (l : List (List ℕ)). netstrings (method ∷ mask_bytes (hash_mask hash) ∷ mask_bytes mask ∷ extra ∷ l))
    (append_assoc (carried (nonce_of mask n)) (number_bytes t ∷ number_bytes lt ∷ []) (covered_values mask extra aside head ++ (path ∷ body ∷ [])))

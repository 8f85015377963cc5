-- The length of an encoding, its groups, and what it does not hold.
-- Assumes nothing.
use mathlib.Core.Path.{◌≡◌, refl}
use mathlib.Core.List.{List, [], ◌∷◌}
use Prim.Native.Nat.{ℕ, zero, suc, ◌+◌, ◌*◌, ◌/◌, ◌%◌, ◌<◌}
use native.Mathlib.Omega.{arith}
use lib.ListN.{length, get_or, take, drop}
use Rattle.base_64.specs.Alphabet.{counted, alphabet, character, pad, place_in, six_bits}
use Rattle.base_64.specs.Encoding.{encoded}
use Rattle.base_64.specs.Decoding.{coded}
use Rattle.base_64.proofs.Alphabet.{six_not}

-- four characters for three bytes
pub length_encoded : (bs : List ℕ) → length (encoded bs) ≡ 4 * ((length bs + 2) / 3)
unfolding encoded
length_encoded [] = refl
length_encoded (a ∷ []) = refl
length_encoded (a ∷ b ∷ []) = refl
length_encoded (a ∷ b ∷ c ∷ rest) = omega (arith, length_encoded rest)

-- the first group is the text of the first three bytes, and the others that of the rest
pub encoded_groups : (bs : List ℕ) → (encoded (take 3 bs) ≡ take 4 (encoded bs)) × (drop 4 (encoded bs) ≡ encoded (drop 3 bs))
unfolding encoded
encoded_groups [] = (refl, refl)
encoded_groups (a ∷ []) = (refl, refl)
encoded_groups (a ∷ b ∷ []) = (refl, refl)
encoded_groups (a ∷ b ∷ c ∷ rest) = (refl, refl)

data Apart : List ℕ → Type 0 where
  none : Apart []
  ◌then◌ : {c : ℕ} {cs : List ℕ} → (c ≡ 59 → ⊥) → Apart cs → Apart (c ∷ cs)

infixr 5 ◌then◌
apart_at : {cs : List ℕ} → Apart cs → (i : ℕ) → get_or cs i 0 ≡ 59 → ⊥
apart_at none i e = omega arith
apart_at (h then hs) zero e = h e
apart_at (h then hs) (suc i) e = apart_at hs i e

six : (n : ℕ) → character (n % 64) ≡ 59 → ⊥
unfolding coded six_bits alphabet counted place_in
six n = six_not n 59 refl

equals : pad ≡ 59 → ⊥
equals e = omega arith

apart : (bs : List ℕ) → Apart (encoded bs)
unfolding encoded
apart [] = none
apart (a ∷ []) = six _ then six _ then equals then equals then none
apart (a ∷ b ∷ []) = six _ then six _ then six _ then equals then none
apart (a ∷ b ∷ c ∷ rest) = six _ then six _ then six _ then six _ then apart rest

-- so an encoding has no character that joins fields
pub encoded_no_semicolon : (bs : List ℕ) (i : ℕ) → i < length (encoded bs) → get_or (encoded bs) i 0 ≡ 59 → ⊥
encoded_no_semicolon bs i h = apart_at (apart bs) i

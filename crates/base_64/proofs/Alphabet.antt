-- Characters and six-bit values determine each other.
-- Assumes nothing.
use mathlib.Core.Path.{◌≡◌, refl, sym, ap, ◌∙◌}
use mathlib.Core.Bool.{Bool, true, false, false≢true}
use mathlib.Core.List.{List, [], ◌∷◌}
use Prim.Native.Nat.{ℕ, suc, ◌%◌, ◌<◌}
use native.Mathlib.Nat.{not-suc-le-zero, le_of_suc-le-suc}
use native.Mathlib.Omega.{arith}
use lib.Dec.{eqb}
use lib.ListN.{length, get_or}
use borrow.Author.Tests.{eqb-true, ne_eqb, lt-ltb}
use Rattle.base_64.specs.Alphabet.{counted, alphabet, character, pad, pick_place, place_in, six_bits}
use Rattle.base_64.specs.Decoding.{coded}
use Rattle.base_64.proofs.Listed.{listed, lists}

placed_more : (x : ℕ) (xs : List ℕ) (c k : ℕ) (t : Bool) → eqb x c ≡ t → (k < length xs → get_or xs k 0 ≡ c)
    → pick_place t k < suc (length xs) → get_or (x ∷ xs) (pick_place t k) 0 ≡ c
placed_more x xs c k true e f h = eqb-true x c e
placed_more x xs c k false e f h = f (le_of_suc-le-suc h)

placed : (xs : List ℕ) (c : ℕ) → place_in xs c < length xs → get_or xs (place_in xs c) 0 ≡ c
unfolding place_in
placed [] c h = absurd (not-suc-le-zero h)
placed (x ∷ xs) c h = placed_more x xs c (place_in xs c) (eqb x c) refl (placed xs c) h

-- a character is that of its value
pub spelled : (c v : ℕ) → six_bits c < 64 → v ≡ six_bits c → character v ≡ c
unfolding six_bits character alphabet counted
spelled c v h e = ap character e ∙ placed alphabet c h

-- a value is that of its character
pub six : (n : ℕ) → six_bits (character (n % 64)) ≡ n % 64
unfolding six_bits character alphabet counted place_in listed
six n =
    let h : n % 64 < 64 = omega arith in
    sym ((lists (λ (v : ℕ). six_bits (character v)) 64).at (n % 64) h) ∙ (lists (λ (v : ℕ). v) 64).at (n % 64) h

pub six_coded : (n : ℕ) → coded (character (n % 64)) ≡ true
unfolding coded
six_coded n = rw (six n) (lt-ltb (n % 64) 64 (omega arith))

-- so no other byte is the character of a value
pub six_not : (n c : ℕ) → coded c ≡ false → character (n % 64) ≡ c → ⊥
six_not n c h e = false≢true (sym (ap coded e ∙ h) ∙ six_coded n)

pub pad_uncoded : coded pad ≡ false
unfolding coded six_bits alphabet counted place_in
pad_uncoded = refl

pub six_not_pad : (n : ℕ) → eqb (character (n % 64)) pad ≡ false
six_not_pad n = ne_eqb _ pad (six_not n pad pad_uncoded)

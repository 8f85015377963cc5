-- SP 800-38D, 7.1 and 7.2: authenticated encryption and decryption.
-- Assumes nothing.
use Rattle.std.specs.Prelude.{Bool, true, false, List, [], ◌∷◌, ◌++◌, ℕ, ◌-◌, ◌*◌, ◌%◌, length, replicate}
use Rattle.std.proofs.Math.Option.{Option, none, some}
use Rattle.aes.specs.Cipher.{aes256}
use Rattle.cells.specs.Runs.{same}
use Rattle.cells.specs.Numbers.{bytes_of, number}
use Rattle.gcm.specs.Ghash.{ghash}
use Rattle.gcm.specs.Gctr.{inc32, gctr}

-- H: the cipher of the zero block
unfoldable pub hash_key : List ℕ → ℕ
hash_key key = number (aes256 key (replicate 16 0))

-- J_0: an IV of 96 bits, 31 zeros and a one
unfoldable pub pre_counter : List ℕ → ℕ
pre_counter iv = number (iv ++ 0 ∷ 0 ∷ 0 ∷ 1 ∷ [])

-- a run and as many zeros as make its blocks whole
unfoldable pub padded : List ℕ → List ℕ
padded xs = xs ++ replicate ((16 - length xs % 16) % 16) 0

-- what is hashed: associated data, cipher text, and the lengths of the two in bits
unfoldable pub hash_input : List ℕ → List ℕ → List ℕ
hash_input aad cipher = padded aad ++ (padded cipher ++ (bytes_of 8 (8 * length aad) ++ bytes_of 8 (8 * length cipher)))

unfoldable pub tag_of : List ℕ → List ℕ → List ℕ → List ℕ → List ℕ
tag_of key iv aad cipher = gctr key (pre_counter iv) (bytes_of 16 (ghash (hash_key key) (hash_input aad cipher)))

-- the text's cipher text, and back
unfoldable pub crypted : List ℕ → List ℕ → List ℕ → List ℕ
crypted key iv text = gctr key (inc32 (pre_counter iv)) text

pub record Sealed : Type 0 where
  pub cipher : List ℕ
  pub tag : List ℕ

-- 7.1
unfoldable pub sealed : List ℕ → List ℕ → List ℕ → List ℕ → Sealed
sealed key iv aad text =
    record { cipher = crypted key iv text; tag = tag_of key iv aad (crypted key iv text) }

abbrev pub given : Bool → List ℕ → Option (List ℕ)
given true text = some text
given false text = none

-- 7.2: the text, where the tag is that of the cipher text
unfoldable pub opened : List ℕ → List ℕ → List ℕ → List ℕ → List ℕ → Option (List ℕ)
opened key iv aad cipher tag = given (same tag (tag_of key iv aad cipher)) (crypted key iv cipher)

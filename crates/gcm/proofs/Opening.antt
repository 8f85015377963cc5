-- Sealing and opening belong together, for all keys, IVs, associated data, texts and tags, of whatever length.
-- Assumes nothing.
use mathlib.Core.Bool.{Bool, true, false}
use mathlib.Core.List.{List}
use mathlib.Core.Option.{some}
use mathlib.Core.Path.{◌≡◌, refl, sym, ap, ap₂, ◌∙◌}
use Prim.Native.Nat.{ℕ}
use lib.ListN.{length}
use Rattle.cells.specs.Numbers.{bytes_of}
use Rattle.cells.proofs.Numbers.{length_bytes_of}
use Rattle.gcm.specs.Ghash.{ghash}
use Rattle.gcm.specs.Gctr.{inc32}
use Rattle.gcm.specs.Gcm.{pre_counter, crypted, hash_key, hash_input, tag_of, sealed, given, opened}
use Rattle.cells.specs.Runs.{same}
use Rattle.cells.proofs.Equality.{same_equal, same_self}
use Rattle.gcm.proofs.Masking.{gctr_back, length_gctr}

-- a text's cipher text, and a cipher text's text, are as long as it
pub length_crypted : (key iv text : List ℕ) → length (crypted key iv text) ≡ length text
unfolding crypted
length_crypted key iv text = length_gctr key (inc32 (pre_counter iv)) text

pub length_tag : (key iv aad cipher : List ℕ) → length (tag_of key iv aad cipher) ≡ 16
unfolding tag_of
length_tag key iv aad cipher =
    length_gctr key (pre_counter iv) (bytes_of 16 (ghash (hash_key key) (hash_input aad cipher))) ∙ length_bytes_of 16 (ghash (hash_key key) (hash_input aad cipher))

crypted_back : (key iv text : List ℕ) → crypted key iv (crypted key iv text) ≡ text
unfolding crypted
crypted_back key iv text = gctr_back key (inc32 (pre_counter iv)) text

-- what was sealed opens to its text
pub opened_sealed : (key iv aad text : List ℕ) → opened key iv aad (sealed key iv aad text).cipher (sealed key iv aad text).tag ≡ some text
unfolding opened sealed
opened_sealed key iv aad text =
    ap₂ given (same_self (tag_of key iv aad (crypted key iv text))) (crypted_back key iv text)

-- a text that was given was given for the right tag
given_some : (t : Bool) (text p : List ℕ) → given t text ≡ some p → (t ≡ true) × (text ≡ p)
given_some true text p e = (refl, cc)
given_some false text p e = (cc, cc)

-- only what sealing a text gives opens, and to that text
pub sealed_opened : (key iv aad cipher tag text : List ℕ) → opened key iv aad cipher tag ≡ some text
    → sealed key iv aad text ≡ record { cipher = cipher; tag = tag }
unfolding opened sealed
sealed_opened key iv aad cipher tag text e =
    let found = given_some (same tag (tag_of key iv aad cipher)) (crypted key iv cipher) text e in
    let right : tag ≡ tag_of key iv aad cipher = same_equal tag (tag_of key iv aad cipher) found.0 in
    let back : crypted key iv text ≡ cipher = ap (crypted key iv) (sym found.1) ∙ crypted_back key iv cipher in
    ap (λ (c : List ℕ). record { cipher = c; tag = tag_of key iv aad c }) back ∙ ap (λ (t : List ℕ). record { cipher = cipher; tag = t }) (sym right)

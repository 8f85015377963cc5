-- What callers need of the cipher beside its definition.
-- Assumes nothing.
use mathlib.Core.List.{List}
use mathlib.Core.Path.{◌≡◌, refl, ap, ap₂, ◌∙◌}
use Prim.Native.Nat.{ℕ, suc, ◌+◌, ◌-◌, ◌≤◌}
use native.Mathlib.Omega.{arith}
use lib.ListN.{length}
use Rattle.aes.specs.Cipher.{add_round_key, full_round, rounds, cipher, key_expansion, aes256}

-- the cipher under the schedule of a key is AES-256 under that key
pub cipher_expanded : (key block : List ℕ) → cipher (key_expansion key) block ≡ aes256 key block
unfolding aes256
cipher_expanded key block = refl

-- a cipher text is a block
pub length_cipher : (w block : List ℕ) → length (cipher w block) ≡ 16
unfolding cipher add_round_key
length_cipher w block = refl

pub length_aes256 : (key block : List ℕ) → length (aes256 key block) ≡ 16
unfolding aes256
length_aes256 key block = length_cipher (key_expansion key) block

-- a turn of the loop over the full rounds
pub round_more : (w s : List ℕ) (n : ℕ) {t : List ℕ} → 1 ≤ n → t ≡ rounds w s (n - 1) → full_round t w n ≡ rounds w s (n + 1 - 1)
unfolding rounds
round_more w s n {t} lo h =
    let e : n ≡ suc (n - 1) = omega arith in
    let f : suc (n - 1) ≡ n + 1 - 1 = omega arith in
    ap₂ (λ (l : List ℕ) (m : ℕ). full_round l w m) h e ∙ ap (rounds w s) f

-- Document 01, 'Proved cases, together under a single statement': its twelve cases, the last with the leading part that document 02, K3, gives it.
-- Assumes nothing.
use mathlib.Core.Path.{◌≡◌, refl}
use mathlib.Core.Bool.{true, false}
use mathlib.Core.List.{List, [], ◌∷◌, ◌++◌}
use Prim.Native.Nat.{ℕ}
use lib.Dec.{lit≤}
use Rattle.hashes.specs.declared.Hash.TheVariants.{Sha512}
use Rattle.cells.specs.Numbers.{number}
use Rattle.base_64.specs.Decoding.{bytes, decoded}
use Rattle.netstring.specs.Netstring.{netstring}
use Rattle.netstring.proofs.Examples.{nothing}
use Rattle.armor.specs.Numerals.{number_bytes, mask_bytes, mask_of}
use Rattle.armor.proofs.Cases.{case_2, case_3, case_4, case_5}
use Rattle.cells.specs.Text.{codes}
use Rattle.window.specs.declared.Window.{Window}
use Rattle.window.specs.Time.{exceeds}
use Rattle.window.specs.Window.{fresh, bit, number_of, step_of}
use Rattle.window.proofs.Times.{ahead}
use Rattle.signed.specs.SignedText.{request_text}
use Rattle.signed.proofs.Case12.{case_12}

-- a window whose highest nonce is 100
abbrev pub hundred : ℕ → Window
hundred bits = record { any = true; highest = record { 0 = 100 }; bits = bits }

-- an accepted nonce is 0, and the numbers are those that a call returns
abbrev pub answer : Window → ℕ → ℕ
answer window nonce = number_of (step_of window nonce).verdict

-- a head of one line
abbrev pub host : List ℕ
host = codes "Host:a" ++ (0x0D ∷ 0x0A ∷ [])

pub record Cases : Type 0 where
  -- netstring of nothing: `0:,`
  pub one : netstring [] ≡ codes "0:,"
  -- base64 `Kb+4` is 2736056: written so, and read so
  pub two : (decoded (codes "Kb+4") ≡ bytes (number_bytes 2736056)) × (number (number_bytes 2736056) ≡ 2736056)
  -- `AQQ=` is the mask 4
  pub three : (decoded (codes "AQQ=") ≡ bytes (mask_bytes 4)) × (mask_of (mask_bytes 4) ≡ 4)
  -- `WcBGQw==` is 1505773123
  pub four : (decoded (codes "WcBGQw==") ≡ bytes (number_bytes 1505773123)) × (number (number_bytes 1505773123) ≡ 1505773123)
  -- `Aw1z7w==` is the mask with bytes 0D 73 EF
  pub five : (decoded (codes "Aw1z7w==") ≡ bytes (3 ∷ 0x0D ∷ 0x73 ∷ 0xEF ∷ []))
      × (mask_bytes (mask_of (3 ∷ 0x0D ∷ 0x73 ∷ 0xEF ∷ [])) ≡ 3 ∷ 0x0D ∷ 0x73 ∷ 0xEF ∷ [])
  -- window fresh, n 0: bits 1
  pub six : (answer fresh 0 ≡ 0) × ((step_of fresh 0).window.bits ≡ 1)
  -- highest 100, n 37, bit clear: accepted
  pub seven : (bits : ℕ) → bit bits 63 ≡ false → answer (hundred bits) 37 ≡ 0
  -- highest 100, n 36: 15
  pub eight : (bits : ℕ) → answer (hundred bits) 36 ≡ 15
  -- highest 100, n 100: 16; the lowest bit, that of the highest nonce, is set
  pub nine : (bits : ℕ) → bit bits 0 ≡ true → answer (hundred bits) 100 ≡ 16
  -- highest 100, n 164: bits 1
  pub ten : (bits : ℕ) → (answer (hundred bits) 164 ≡ 0) × ((step_of (hundred bits) 164).window.bits ≡ 1)
  -- t 1000, lt 1010: not idle
  pub eleven : (limit : ℕ) → exceeds 1000 1010 limit ≡ false
  -- a GET, ah 3, no extras, n 5, t 1000, lt 990, Host `a`, path `/`, no body: signed text, control bytes in hex
  pub twelve : request_text (codes "GET") Sha512 3 [] 5 1000 990 [] host (codes "/") []
      ≡ codes "3:GET,2:" ++ (0x01 ∷ 0x04 ∷ codes ",2:" ++ (0x01 ∷ 0x03 ∷ codes ",0:,1:" ++ (0x05 ∷ codes ",2:" ++ (0x03 ∷ 0xE8 ∷ codes ",2:" ++ (0x03 ∷ 0xDE ∷ codes ",1:a,1:/,0:,")))))

seventh : (bits : ℕ) → bit bits 63 ≡ false → answer (hundred bits) 37 ≡ 0
unfolding step_of
seventh bits clear = rw clear

ninth : (bits : ℕ) → bit bits 0 ≡ true → answer (hundred bits) 100 ≡ 16
unfolding step_of
ninth bits set = rw set

pub cases : Cases
unfolding codes step_of
cases = record {
  one = nothing;
  two = case_2;
  three = case_3;
  four = case_4;
  five = case_5;
  six = (refl, refl);
  seven = seventh;
  eight = λ bits. refl;
  nine = ninth;
  ten = λ bits. (refl, refl);
  eleven = λ limit. ahead 1000 1010 limit (lit≤ tt);
  twelve = case_12;
}

-- How the code's contracts say that a state took in parts of the signed text.
-- Assumes nothing.
use Rattle.std.specs.Prelude.{List, [], ◌∷◌, ◌++◌, ℕ, ◌+◌, ◌^◌, ◌<◌, length}
use Rattle.sha_2.specs.InnerTaken.{TookIn}
use Rattle.sha_2.specs.declared.State.{State}
use Rattle.netstring.specs.Netstring.{netstrings}
use Rattle.hashes.specs.declared.Hash.{Hash}
use Rattle.hashes.specs.Hashes.{hash_mask}
use Rattle.armor.specs.Numerals.{number_bytes, mask_bytes}
use Rattle.signed.specs.SignedText.{carried, nonce_of}

-- s has room for the netstrings of these parts
abbrev pub Room : State → List (List ℕ) → Type 0
Room s parts = s.length + length (netstrings parts) < 2 ^ 61

-- s took them in, and became r
abbrev pub TookParts : State → List (List ℕ) → State → Type 0
TookParts s parts r = TookIn s (netstrings parts) r

-- the method, h, ah, eah, n if carried, t and lt
abbrev pub opening_parts : List ℕ → Hash → ℕ → List ℕ → ℕ → ℕ → ℕ → List (List ℕ)
opening_parts method hash mask extra n t lt =
    method ∷ mask_bytes (hash_mask hash) ∷ mask_bytes mask ∷ extra ∷ (carried (nonce_of mask n) ++ (number_bytes t ∷ number_bytes lt ∷ []))

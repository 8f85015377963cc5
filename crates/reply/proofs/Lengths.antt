-- How long the replies are: document 01, Sizes and The X-S-Armor value.
-- Assumes nothing.
use mathlib.Core.Path.{◌≡◌, refl}
use mathlib.Core.List.{List, [], ◌∷◌}
use Prim.Native.Nat.{ℕ, ◌+◌, ◌*◌, ◌/◌, ◌≤◌}
use native.Mathlib.Omega.{arith}
use lib.ListN.{length, length-append, length-take}
use Rattle.cells.specs.Numbers.{bytes_of}
use Rattle.base_64.proofs.Encoded.{length_encoded}
use Rattle.hashes.specs.declared.Hash.{Hash}
use Rattle.hashes.specs.declared.Hash.TheVariants.{Sha256, Sha512}
use Rattle.hashes.specs.Hashes.{hash_mask}
use Rattle.hmac.specs.Hmac.{hmac_of}
use Rattle.hmac.proofs.Output.{length_hmac}
use Rattle.cells.specs.Text.{codes}
use Rattle.armor.specs.Numerals.{shortest, number_bytes, mask_bytes}
use Rattle.armor.specs.Value.{Field, field, field_text, following}
use Rattle.armor.proofs.Numerals.{length_mask_bytes}
use Rattle.cells.specs.declared.Run.{Run}
use Rattle.cells.specs.InnerRun.{run_of}
use Rattle.reply.specs.Replies.{extra_field, setup_reply, invalidation, invalidation_size}
use Rattle.reply.proofs.Laying.{setup_fields_lem}

pub length_field : (name content : List ℕ) → length (field_text (field name content)) ≡ length name + 1 + 4 * ((length content + 2) / 3)
unfolding field_text
length_field name content = simp (length-append, length_encoded) (omega arith)

length_hash : (hash : Hash) → length (mask_bytes (hash_mask hash)) ≡ 2
unfolding mask_bytes number_bytes shortest bytes_of
length_hash Sha256 = refl
length_hash Sha512 = refl

length_following : (name content : List ℕ) (rest : List Field)
    → length (following (field name content ∷ rest)) ≡ length name + 2 + 4 * ((length content + 2) / 3) + length (following rest)
unfolding following
length_following name content rest =
    omega (arith, length_field name content, length-append (field_text (field name content)) (following rest))

length_extra : (extra : List ℕ) → length extra ≤ 128 → length (following (extra_field extra)) ≤ 177
unfolding following codes
length_extra [] h = omega arith
length_extra (b ∷ bs) h = omega (arith, length_following (codes "eah") (b ∷ bs) [])

-- a setup's reply is never longer than 459 bytes
pub setup_short : (s iv tag key : List ℕ) (hash : Hash) (mask : ℕ) (extra : List ℕ) → length s ≤ 118 → length iv ≡ 12 → length tag ≡ 16 → length key ≡ 32
    → length extra ≤ 128 → length (setup_reply s iv tag key hash mask extra) ≤ 459
unfolding codes
setup_short s iv tag key hash mask extra hs hiv htag hkey hextra =
    rw setup_fields_lem (simp (length-append, length_field, length_following) (omega (arith, length_hash hash, length_mask_bytes mask, length_extra extra hextra)))

pub run_short : {N : ℕ} (r : Run N) → length (run_of r) ≤ N
run_short r = omega (arith, length-take r.len r.bytes, r.fits)

-- an invalidation has 46 bytes or 90
pub length_invalidation : (hash : Hash) (key : List ℕ) → length (invalidation hash key) ≡ invalidation_size hash
unfolding invalidation codes
length_invalidation Sha256 key =
    omega (arith, length_field (codes "i") (hmac_of Sha256 key (codes "Session Expired")), length_hmac Sha256 key (codes "Session Expired"))
length_invalidation Sha512 key =
    omega (arith, length_field (codes "i") (hmac_of Sha512 key (codes "Session Expired")), length_hmac Sha512 key (codes "Session Expired"))

-- The answers of the calls that hash a text, and of those that make a code.
-- Assumes nothing.
use Rattle.std.specs.Prelude.{Bool, ◌&&◌, List, ℕ, ◌^◌, eqb, ltb, length}
use Rattle.hashes.specs.declared.Hash.{Hash}
use Rattle.hashes.specs.Hashes.{digest_size}
use Rattle.sha_2.specs.Hash.{sha2}
use Rattle.hmac.specs.Hmac.{hmac_of}
use Rattle.primitives.specs.Answer.{Answer, where_fits}

-- a text of fewer than 2 ^ 60 bytes
abbrev pub short : List ℕ → Bool
short text = ltb (length text) (2 ^ 60)

-- a buffer of as many bytes as a digest has
abbrev pub wide : Hash → List ℕ → Bool
wide h out = eqb (length out) (digest_size h)

unfoldable pub digest_call : Hash → List ℕ → List ℕ → Answer
digest_call h text out = where_fits (wide h out && short text) (sha2 h text) out

unfoldable pub hmac_call : Hash → List ℕ → List ℕ → List ℕ → Answer
hmac_call h key text out = where_fits (wide h out && (short key && short text)) (hmac_of h key text) out

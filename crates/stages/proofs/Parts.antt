-- The numbers of the parts of a request's checks.
-- Assumes nothing.
use mathlib.Core.Path.{◌≡◌, refl}
use mathlib.Core.Bool.{true}
use mathlib.Core.List.{List}
use Prim.Native.Nat.{ℕ}
use Rattle.stages.specs.Request.{Request}
use Rattle.stages.specs.Parts.{reading_part, covering_part, token_part, signature_part, vouching_part, session_part}
use Rattle.stages.proofs.Checks.{numbered, lacks}

pub reading_numbered : (q : Request) → numbered (reading_part q) ≡ true
unfolding reading_part covering_part
reading_numbered q = refl

-- none of them frees a record
pub reading_ten : (q : Request) → lacks 10 (reading_part q) ≡ true
unfolding reading_part covering_part
reading_ten q = refl

pub reading_thirteen : (q : Request) → lacks 13 (reading_part q) ≡ true
unfolding reading_part covering_part
reading_thirteen q = refl

pub token_numbered : (q : Request) → numbered (token_part q) ≡ true
unfolding token_part
token_numbered q = refl

pub signature_numbered : (q : Request) → numbered (signature_part q) ≡ true
unfolding signature_part
signature_numbered q = refl

pub vouching_numbered : (q : Request) → numbered (vouching_part q) ≡ true
unfolding token_part signature_part
vouching_numbered q = refl

pub session_numbered : (q : Request) (table : List ℕ) → numbered (session_part q table) ≡ true
unfolding session_part
session_numbered q table = refl

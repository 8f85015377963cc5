-- How the contracts say what a struct of the code holds of a token, opened or sealed.
-- Assumes nothing.
use Rattle.std.specs.Prelude.{◌≡◌, true, false, ◌≤◌, length, Some, None}
use Rattle.std.specs.Prelude.{Option as Answer}
use Rattle.std.proofs.Math.Option.{Option}
use Rattle.cells.specs.InnerRun.{run_of}
use Rattle.gcm.specs.Gcm.{Sealed}
use Rattle.token.specs.Token.{Token, has_token, the_token}
use Rattle.token.specs.declared.Token.{Token as Held}
use Rattle.token.specs.declared.SealedToken.{SealedToken}

-- the struct is this token
pub record IsToken (t : Token) (r : Held) : Type 0 where
  pub key : r.key ≡ t.key
  pub id : run_of r.id ≡ t.id
  pub id_some : 1 ≤ length t.id
  pub id_fits : length t.id ≤ 64
  pub expiry : r.expiry.0 ≡ t.expiry

-- what opening answers: there is no token, or this one
abbrev pub Unseals : Option Token → Answer Held → Type 0
Unseals o None = has_token o ≡ false
Unseals o (Some r) = (has_token o ≡ true) × IsToken (the_token o) r

-- a sealed token in its struct
pub record SealsTo (z : Sealed) (r : SealedToken) : Type 0 where
  pub text : run_of r.s ≡ z.cipher
  pub some : 1 ≤ length z.cipher
  pub fits : length z.cipher ≤ 118
  pub tag : r.tag ≡ z.tag

-- What is shown of the two calls: document 02, K13. proofs/Theorems.antt has the theorems.
-- Assumes nothing.
use Rattle.std.specs.Prelude.{ℕ, ◌/◌, ◌≤◌, ◌≡◌, List, take}
use Rattle.cells.specs.Numbers.{bytes_of}
use Rattle.structured.specs.Reading.{last_integer}
use Rattle.signatures.specs.Fields.{field_lines}
use Rattle.carrier.specs.Asked.{Asked, asked_number, answer}
use Rattle.carrier.specs.Sign.{input_of, signature_of, signed}
use Rattle.carrier.specs.Verify.{verified}

-- what sign left in its buffer is two fields, whose values verify takes, and it tells when they were created
pub record TakenBack (a : Asked) (created : ℕ) (out room : List ℕ) : Type 0 where
  pub input : List ℕ
  pub signature : List ℕ
  pub text : take ((signed a created out).number / 256) (signed a created out).out ≡ field_lines input signature
  pub taken : verified a input signature room ≡ answer 0 (bytes_of 8 created)

-- nothing is refused of what is asked, and the two values are those that sign writes at a time
pub record SignedAt (a : Asked) (created : ℕ) (input signature : List ℕ) : Type 0 where
  pub asked : asked_number a ≡ 0
  pub time : created ≤ last_integer
  pub covers : input ≡ input_of a created
  pub signs : signature ≡ signature_of a created

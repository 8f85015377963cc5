-- The bounds of the refusals' numbers: none is 0, and each is below 256.
-- Assumes nothing.
use Prim.Native.Nat.{ℕ, ◌≤◌, ◌<◌}
use native.Mathlib.Omega.{arith}
use Rattle.stages.specs.InnerRefusals.{number_of}
use Rattle.stages.specs.declared.refusal.Refusal.{Refusal}
use Rattle.stages.specs.declared.refusal.Refusal.TheVariants.{WrongSize, BadOrders, BadTable, BadGrammar, WrongFields, BadLines, NameTwice, NotAsOrdered, BadToken, Expired, WrongSignature, NoSession, Idle, TooOld, NonceTooLow, NonceSeen, IvInUse, TableFull, NoCommonHash, ExpiryTooLate, TooFarAhead, BadIndex, BadReply}

-- each is one of the numbers of the list
pub record Listed (n : ℕ) : Type 0 where
  pub some : 1 ≤ n
  pub last : n ≤ 23

pub number_listed : (r : Refusal) → Listed (number_of r)
number_listed WrongSize = record { some = omega arith; last = omega arith }
number_listed BadOrders = record { some = omega arith; last = omega arith }
number_listed BadTable = record { some = omega arith; last = omega arith }
number_listed BadGrammar = record { some = omega arith; last = omega arith }
number_listed WrongFields = record { some = omega arith; last = omega arith }
number_listed BadLines = record { some = omega arith; last = omega arith }
number_listed NameTwice = record { some = omega arith; last = omega arith }
number_listed NotAsOrdered = record { some = omega arith; last = omega arith }
number_listed BadToken = record { some = omega arith; last = omega arith }
number_listed Expired = record { some = omega arith; last = omega arith }
number_listed WrongSignature = record { some = omega arith; last = omega arith }
number_listed NoSession = record { some = omega arith; last = omega arith }
number_listed Idle = record { some = omega arith; last = omega arith }
number_listed TooOld = record { some = omega arith; last = omega arith }
number_listed NonceTooLow = record { some = omega arith; last = omega arith }
number_listed NonceSeen = record { some = omega arith; last = omega arith }
number_listed IvInUse = record { some = omega arith; last = omega arith }
number_listed TableFull = record { some = omega arith; last = omega arith }
number_listed NoCommonHash = record { some = omega arith; last = omega arith }
number_listed ExpiryTooLate = record { some = omega arith; last = omega arith }
number_listed TooFarAhead = record { some = omega arith; last = omega arith }
number_listed BadIndex = record { some = omega arith; last = omega arith }
number_listed BadReply = record { some = omega arith; last = omega arith }

pub some_number : (r : Refusal) → 1 ≤ number_of r
some_number r = (number_listed r).some

pub small_number : (r : Refusal) → number_of r < 256
small_number r = omega (arith, (number_listed r).last)

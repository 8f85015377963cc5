-- The number of each refusal: document 01, 'The numbers a call returns', and document 02 for 21 to 23.
-- Assumes nothing.
use Rattle.std.specs.Prelude.{◌≡◌, ℕ, Result, Ok, Err}
use Rattle.armor.specs.declared.Unread.{Unread}
use Rattle.armor.specs.declared.Unread.TheVariants.{Grammar, Fields}
use Rattle.lines.specs.declared.noting.Unnoted.{Unnoted}
use Rattle.lines.specs.declared.noting.Unnoted.TheVariants.{NotLines, Twice}
use Rattle.stages.specs.declared.refusal.Refusal.{Refusal}
use Rattle.stages.specs.declared.refusal.Refusal.TheVariants.{WrongSize, BadOrders, BadTable, BadGrammar, WrongFields, BadLines, NameTwice, NotAsOrdered, BadToken, Expired, WrongSignature, NoSession, Idle, TooOld, NonceTooLow, NonceSeen, IvInUse, TableFull, NoCommonHash, ExpiryTooLate, TooFarAhead, BadIndex, BadReply}

abbrev pub number_of : Refusal → ℕ
number_of WrongSize = 1
number_of BadOrders = 2
number_of BadTable = 3
number_of BadGrammar = 4
number_of WrongFields = 5
number_of BadLines = 6
number_of NameTwice = 7
number_of NotAsOrdered = 8
number_of BadToken = 9
number_of Expired = 10
number_of WrongSignature = 11
number_of NoSession = 12
number_of Idle = 13
number_of TooOld = 14
number_of NonceTooLow = 15
number_of NonceSeen = 16
number_of IvInUse = 17
number_of TableFull = 18
number_of NoCommonHash = 19
number_of ExpiryTooLate = 20
number_of TooFarAhead = 21
number_of BadIndex = 22
number_of BadReply = 23

-- the number of an answer: 0, or that of its refusal
abbrev pub number_in : {A : Type 0} → Result A Refusal → ℕ
number_in (Ok a) = 0
number_in (Err refusal) = number_of refusal

-- by what a value is refused that cannot be read
abbrev pub RefusedUnread : Unread → Refusal → Type 0
RefusedUnread Grammar refusal = refusal ≡ BadGrammar
RefusedUnread Fields refusal = refusal ≡ WrongFields

-- and lines that cannot be noted
abbrev pub RefusedUnnoted : Unnoted → Refusal → Type 0
RefusedUnnoted NotLines refusal = refusal ≡ BadLines
RefusedUnnoted Twice refusal = refusal ≡ NameTwice

-- A line of an access log in the Common Log Format: document 02, K5.
-- Assumes nothing.
use Rattle.std.specs.Prelude.{ℕ, List, [], ◌∷◌, Bool, true, false, not, ◌&&◌, ◌||◌, eqb, leb, length}
use Rattle.cells.specs.Decimal.{decimal}
use Rattle.cells.specs.Runs.{same}
use Rattle.cells.specs.Spans.{all}

-- a kind of text: which bytes are one
abbrev pub Kind : Type 0
Kind = List ℕ → Bool

infixr 5 ◌then◌
-- bytes that begin with some text of the first kind, and of which the rest is one of the second
unfoldable pub ◌then◌ : Kind → Kind → Kind
◌then◌ a b [] = a [] && b []
◌then◌ a b (x ∷ xs) = a [] && b (x ∷ xs) || ◌then◌ (λ ys. a (x ∷ ys)) b xs

-- the byte b
abbrev pub byte : ℕ → Kind
byte b = same (b ∷ [])

-- one byte or more, all of which pass
unfoldable pub one_or_more : (ℕ → Bool) → Kind
one_or_more p [] = false
one_or_more p (x ∷ xs) = all p (x ∷ xs)

unfoldable pub other : ℕ → ℕ → Bool
other b x = not (eqb x b)

unfoldable pub digit : ℕ → Bool
digit x = leb 48 x && leb x 57

abbrev pub space : Kind
space = byte 32

-- a host, an ident or a user: not empty, and no space in it
abbrev pub word : Kind
word = one_or_more (other 32)

-- no ] in it
abbrev pub date : Kind
date = all (other 93)

-- any bytes, where a backslash shields the next one and no quote stands unshielded; whether the byte before them shields the first
unfoldable pub request_after : Bool → Kind
request_after shielded [] = not shielded
request_after true (x ∷ xs) = request_after false xs
request_after false (x ∷ xs) = other 34 x && request_after (eqb x 92) xs

abbrev pub request : Kind
request = request_after false

-- the digits of a status
abbrev pub status : ℕ → Kind
status s = same (decimal s)

-- digits, or a dash
unfoldable pub size : Kind
size xs = byte 45 xs || one_or_more digit xs

-- host, ident and user, the date in square brackets, the request in double quotes, the status and the size, with one space between
unfoldable pub common_log : ℕ → Kind
common_log s =
    word then space then word then space then word then space
    then byte 91 then date then byte 93 then space
    then byte 34 then request then byte 34 then space
    then status s then space
    then size

-- such a line of at most 8,192 bytes
unfoldable pub line : ℕ → Kind
line s xs = leb (length xs) 8192 && common_log s xs

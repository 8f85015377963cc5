-- The texts of structured fields: RFC 8941.
-- Assumes nothing.
use Rattle.std.specs.Prelude.{ℕ, List, [], ◌∷◌, ◌++◌, Bool, false, cond, ◌&&◌, ◌||◌, eqb}
use Rattle.cells.specs.Text.{codes}
use Rattle.cells.specs.Spans.{all}
use Rattle.names.specs.Names.{between, has_byte}

abbrev pub SP : ℕ
SP = 32

abbrev pub quote : ℕ
quote = 34

abbrev pub backslash : ℕ
backslash = 92

-- the parentheses of an inner list
abbrev pub opening : ℕ
opening = 40

abbrev pub closing : ℕ
closing = 41

-- 3.1.2: a key begins with lcalpha or *, and then may have digits, _, - and . too
abbrev pub key_start : ℕ → Bool
key_start b = between 97 122 b || eqb b 42

abbrev pub key_byte : ℕ → Bool
key_byte b = key_start b || between 48 57 b || has_byte (codes "_-.") b

unfoldable pub is_key : List ℕ → Bool
is_key [] = false
is_key (b ∷ bs) = key_start b && all key_byte bs

-- 3.3.3: the bytes of a string
abbrev pub printable : ℕ → Bool
printable b = between 32 126 b

-- 4.1.6: " and \ have a \ before them
unfoldable pub escaped : List ℕ → List ℕ
escaped [] = []
escaped (b ∷ bs) = cond (eqb b quote || eqb b backslash) (backslash ∷ b ∷ escaped bs) (b ∷ escaped bs)

unfoldable pub string : List ℕ → List ℕ
string bs = quote ∷ (escaped bs ++ (quote ∷ []))

-- a blank before each string
unfoldable pub further : List (List ℕ) → List ℕ
further [] = []
further (t ∷ ts) = SP ∷ (string t ++ further ts)

-- strings in a row with blanks between them
unfoldable pub strings : List (List ℕ) → List ℕ
strings [] = []
strings (t ∷ ts) = string t ++ further ts

-- 4.1.1.1: an inner list, whose items are strings without parameters
unfoldable pub inner_list : List (List ℕ) → List ℕ
inner_list ts = opening ∷ (strings ts ++ (closing ∷ []))

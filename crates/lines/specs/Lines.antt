-- Header lines, of the head and set aside: document 01, 'Header lines and the signed text'.
-- Assumes nothing.
use Rattle.std.specs.Prelude.{ℕ, zero, suc, ◌≡◌, List, [], ◌∷◌, ◌++◌, Bool, true, cond, ◌&&◌, ◌||◌, length, take, drop, eqb}
use Rattle.cells.specs.Runs.{same}
use Rattle.cells.specs.Spans.{all, leading}
use Rattle.names.specs.Names.{between, token_byte, is_token}

pub record Line : Type 0 where
  pub name : List ℕ
  pub value : List ℕ

abbrev pub colon : ℕ
colon = 58

abbrev pub CR : ℕ
CR = 13

abbrev pub LF : ℕ
LF = 10

-- tab, 32 to 126 and 128 to 255
unfoldable pub value_byte : ℕ → Bool
value_byte b = eqb b 9 || between 32 126 b || between 128 255 b

unfoldable pub good_line : Line → Bool
good_line l = is_token l.name && all value_byte l.value

unfoldable pub all_good : List Line → Bool
all_good [] = true
all_good (l ∷ ls) = good_line l && all_good ls

-- name:value, ended by CR LF
unfoldable pub line_text : Line → List ℕ
line_text l = l.name ++ (colon ∷ (l.value ++ (CR ∷ LF ∷ [])))

unfoldable pub text_of : List Line → List ℕ
text_of [] = []
text_of (l ∷ ls) = line_text l ++ text_of ls

-- the block is the texts of these lines in a row
pub record Lines (block : List ℕ) (ls : List Line) : Type 0 where
  pub text : block ≡ text_of ls
  pub good : all_good ls ≡ true

-- the line that a run begins with, if it begins with one: a token, a byte, and what may be in a value
unfoldable pub front_line : List ℕ → Line
front_line xs =
    let size = leading token_byte xs in
    let rest = drop (suc size) xs in
    record { name = take size xs; value = take (leading value_byte rest) rest }

-- a run begins with a good line
unfoldable pub starts_line : List ℕ → Bool
starts_line xs =
    let text = line_text (front_line xs) in
    good_line (front_line xs) && same (take (length text) xs) text

-- the good lines that a run begins with, at most n of them
unfoldable pub lines_up_to : ℕ → List ℕ → List Line
lines_up_to zero xs = []
lines_up_to (suc n) xs = cond (starts_line xs) (front_line xs ∷ lines_up_to n (drop (length (line_text (front_line xs))) xs)) []

-- the good lines that a block begins with; each has at least one byte
unfoldable pub lines_in : List ℕ → List Line
lines_in block = lines_up_to (length block) block

-- the block is lines, and nothing else
unfoldable pub good_block : List ℕ → Bool
good_block block = same (text_of (lines_in block)) block

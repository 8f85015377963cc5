-- What the texts of strings, lists and integers tell. Any run tells something; that it is the text of that is another question, which writing it
-- again answers.
-- Assumes nothing.
use Rattle.std.specs.Prelude.{ℕ, ◌-◌, ◌≡◌, List, [], ◌∷◌, Bool, true, false, not, cond, eqb, length, take}
use Rattle.cells.specs.Spans.{leading}
use Rattle.cells.specs.Decimal.{value_after}
use Rattle.names.specs.Names.{between}
use Rattle.names.specs.Extra.{comma}
use Rattle.structured.specs.Texts.{SP, quote, backslash}
use Rattle.structured.specs.declared.reading.Integer.{Integer}

-- the bytes of a string, from what stands between its quotes: a \ is left out, and whatever stands after it is kept
unfoldable pub unescaped_after : Bool → List ℕ → List ℕ
unescaped_after after [] = []
unescaped_after true (b ∷ bs) = b ∷ unescaped_after false bs
unescaped_after false (b ∷ bs) = cond (eqb b backslash) (unescaped_after true bs) (b ∷ unescaped_after false bs)

unfoldable pub unescaped : List ℕ → List ℕ
unescaped text = unescaped_after false text

-- strings joined by commas, from what stands in a list: the quotes are left out, and blanks become commas
unfoldable pub unlisted : List ℕ → List ℕ
unlisted [] = []
unlisted (b ∷ bs) = cond (eqb b quote) (unlisted bs) (cond (eqb b SP) comma b ∷ unlisted bs)

abbrev pub digit : ℕ → Bool
digit b = between 48 57 b

-- 3.3.1: an integer has at most 15 digits
abbrev pub last_integer : ℕ
last_integer = 999999999999999

abbrev pub digits_in : List ℕ → ℕ
digits_in run = leading digit (take 15 run)

pub record IntegerIs (run : List ℕ) (r : Integer) : Type 0 where
  pub digits : r.digits ≡ digits_in run
  pub value : r.value ≡ value_after 0 (take (digits_in run) run)

-- bytes other than b
abbrev pub other : ℕ → ℕ → Bool
other b c = not (eqb c b)

-- all bytes but the last
abbrev pub but_last : List ℕ → List ℕ
but_last run = take (length run - 1) run

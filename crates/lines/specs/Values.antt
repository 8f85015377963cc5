-- Names that stand twice, and covered values: document 01, number 7 and 'Header lines and the signed text', and document 02, K10.
-- Assumes nothing.
use Rattle.std.specs.Prelude.{ℕ, List, [], ◌∷◌, ◌++◌, Bool, false, not, cond, ◌&&◌, ◌||◌, length, drop, eqb, ltb}
use Rattle.cells.specs.Spans.{leading}
use Rattle.names.specs.Names.{same_name}
use Rattle.names.specs.Extra.{comma}
use Rattle.names.specs.Lists.{is_list}
use Rattle.lines.specs.Lines.{Line}

abbrev pub space : ℕ
space = 32

-- a space or a tab
abbrev pub blank : ℕ → Bool
blank b = eqb b space || eqb b 9

-- without the blanks at the front
unfoldable pub trim_front : List ℕ → List ℕ
trim_front value = drop (leading blank value) value

-- b before what is kept of the bytes after it; a blank that nothing follows is not kept
abbrev pub keeping : ℕ → List ℕ → List ℕ
keeping b [] = cond (blank b) [] (b ∷ [])
keeping b (c ∷ cs) = b ∷ c ∷ cs

-- without the blanks at the end
unfoldable pub trim_end : List ℕ → List ℕ
trim_end [] = []
trim_end (b ∷ bs) = keeping b (trim_end bs)

unfoldable pub trimmed : List ℕ → List ℕ
trimmed value = trim_end (trim_front value)

-- the trimmed values of the lines that bear the name, in order
unfoldable pub values_in : List Line → List ℕ → List (List ℕ)
values_in [] name = []
values_in (l ∷ ls) name = cond (same_name l.name name) (trimmed l.value ∷ values_in ls name) (values_in ls name)

-- one of the names stands twice or more and is no list field
unfoldable pub repeated : List (List ℕ) → List Line → Bool
repeated [] ls = false
repeated (n ∷ ns) ls = (not (is_list n) && ltb 1 (length (values_in ls n))) || repeated ns ls

-- a comma and a space before each value
unfoldable pub following : List (List ℕ) → List ℕ
following [] = []
following (v ∷ vs) = comma ∷ space ∷ (v ++ following vs)

-- values joined in order by a comma and a space
unfoldable pub joined : List (List ℕ) → List ℕ
joined [] = []
joined (v ∷ vs) = v ++ following vs

abbrev pub or_else : List (List ℕ) → List (List ℕ) → List (List ℕ)
or_else [] others = others
or_else (v ∷ vs) others = v ∷ vs

-- from the set-aside lines where the name stands there, and otherwise from the head; absent is empty
unfoldable pub covered_value : List Line → List Line → List ℕ → List ℕ
covered_value aside head name = joined (or_else (values_in aside name) (values_in head name))

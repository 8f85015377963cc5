-- Notes on a block: where each covered name stands, and whether on several lines: how the code's contracts say it. A note is 0 where no line bears
-- the name; otherwise 1 more than where the first that does starts, and 32768 more if others do too.
-- Assumes nothing.
use Rattle.std.specs.Prelude.{ℕ, ◌+◌, ◌-◌, ◌%◌, ◌≤◌, ◌<◌, ◌≡◌, List, [], ◌∷◌, Bool, true, false, cond, ◌&&◌, ◌||◌, length, get_or, set, take, eqb, leb, ltb, Option, None, Some, Result, Ok, Err}
use Rattle.names.specs.Names.{same_name}
use Rattle.names.specs.InnerSheet.{Sheet}
use Rattle.lines.specs.Lines.{lines_in, good_block}
use Rattle.lines.specs.Values.{values_in, repeated, joined}
use Rattle.lines.specs.InnerPlaces.{Stands, front_at, own_at}
use Rattle.lines.specs.declared.remarks.Notes as Declared
use Rattle.lines.specs.declared.noting.Unnoted.{Unnoted}
use Rattle.lines.specs.declared.noting.Unnoted.TheVariants.{NotLines, Twice}

abbrev pub place_of : ℕ → ℕ
place_of note = note % 32768 - 1

-- the note on one name
pub record NoteIs (block name : List ℕ) (note : ℕ) : Type 0 where
  pub none : note ≡ 0 → values_in (lines_in block) name ≡ []
  pub some : 1 ≤ note → 1 ≤ note % 32768
  pub stands : 1 ≤ note → Stands block (place_of note)
  pub values : 1 ≤ note → values_in (lines_in block) name ≡ own_at block (place_of note)
  pub several : leb 32768 note ≡ ltb 1 (length (values_in (lines_in block) name))

-- the notes on names, in their order
abbrev pub Notes : List ℕ → List (List ℕ) → List ℕ → Type 0
Notes block ns notes = (i : ℕ) → i < length ns → NoteIs block (get_or ns i []) (get_or notes i 0)

-- a note's line stands in the block
abbrev pub PlaceIn : List ℕ → ℕ → Type 0
PlaceIn block note = 1 ≤ note → (1 ≤ note % 32768) × Stands block (place_of note)

-- the value of the first line that the notes on a name tell of, of the set-aside lines before those of the head
abbrev pub first_by : List ℕ → List ℕ → ℕ → ℕ → List ℕ
first_by aside head in_head in_aside =
    cond (eqb in_aside 0) (cond (eqb in_head 0) [] (front_at head (place_of in_head))) (front_at aside (place_of in_aside))

-- the value by a note: of one line, or joined
abbrev pub note_value : List ℕ → ℕ → List ℕ
note_value block note = cond (leb 32768 note) (joined (own_at block (place_of note))) (front_at block (place_of note))

-- the value of a covered name by the notes on it
abbrev pub value_by : List ℕ → List ℕ → ℕ → ℕ → List ℕ
value_by aside head in_head in_aside =
    cond (eqb in_aside 0) (cond (eqb in_head 0) [] (note_value head in_head)) (note_value aside in_aside)

-- the values of covered names by the notes on them
unfoldable pub values_by : List ℕ → List ℕ → List ℕ → List ℕ → List (List ℕ)
values_by aside head [] in_aside = []
values_by aside head (p ∷ ps) [] = []
values_by aside head (p ∷ ps) (q ∷ qs) = value_by aside head p q ∷ values_by aside head ps qs

-- the lines of some notes stand in the block
abbrev pub Placed : List ℕ → List ℕ → Type 0
Placed block notes = (i : ℕ) → PlaceIn block (get_or notes i 0)

-- notes on names in both blocks
pub record NotesOn (ns : List (List ℕ)) (head aside in_head in_aside : List ℕ) : Type 0 where
  pub long_head : length in_head ≡ length ns
  pub long_aside : length in_aside ≡ length ns
  pub of_head : Notes head ns in_head
  pub of_aside : Notes aside ns in_aside

-- a note when one line more bears the name, which starts at index at
abbrev pub marked : ℕ → ℕ → ℕ
marked note at = cond (eqb note 0) (at + 1) (cond (leb 32768 note) note (note + 32768))

-- the notes when one line more bears the name with this number, if it is one of the names
abbrev pub marked_in : List ℕ → Option ℕ → ℕ → List ℕ
marked_in notes (Some number) at = set notes number (marked (get_or notes number 0) at)
marked_in notes None at = notes

-- no two names are the same
abbrev pub Apart : List (List ℕ) → Type 0
Apart ns = (i j : ℕ) → i < length ns → j < length ns → (i ≡ j → ⊥) → same_name (get_or ns i []) (get_or ns j []) ≡ false

-- whether a block is lines, and then the notes on it
abbrev pub NotesTaken : List ℕ → List ℕ → List ℕ → List ℕ → List ℕ → Bool → Type 0
NotesTaken known extra sheet block notes r =
    (r ≡ good_block block) × ((ns : List (List ℕ)) → Sheet known extra sheet ns → Apart ns → r ≡ true → Notes block ns notes)

-- count names stand on a sheet
pub record Counted (known extra sheet : List ℕ) (count : ℕ) : Type 0 where
  pub names : List (List ℕ)
  pub are : Sheet known extra sheet names
  pub as_many : length names ≡ count

-- whether the notes on a block tell of a repeated name
abbrev pub RepeatsIs : List ℕ → List ℕ → List ℕ → List ℕ → ℕ → Bool → Type 0
RepeatsIs known extra sheet notes count r =
    (ns : List (List ℕ)) (block : List ℕ) → Sheet known extra sheet ns → length ns ≡ count → Notes block ns notes → r ≡ repeated ns (lines_in block)

-- the notes on names in both blocks
abbrev pub NotesOf : List (List ℕ) → List ℕ → List ℕ → Declared.Notes → Type 0
NotesOf ns head aside notes = NotesOn ns head aside (take notes.count notes.head) (take notes.count notes.aside)

-- both blocks are lines, with the notes on them, and whether a name is repeated in one
pub record Told (ns : List (List ℕ)) (head aside : List ℕ) (notes : Declared.Notes) (twice : Bool) : Type 0 where
  pub good : (good_block head && good_block aside) ≡ true
  pub twice_is : (repeated ns (lines_in head) || repeated ns (lines_in aside)) ≡ twice
  pub are : NotesOf ns head aside notes

abbrev pub NotedIs : List (List ℕ) → List ℕ → List ℕ → Declared.Notes → Result (Unit {0}) Unnoted → Type 0
NotedIs ns head aside notes (Ok u) = Told ns head aside notes false
NotedIs ns head aside notes (Err Twice) = Told ns head aside notes true
NotedIs ns head aside notes (Err NotLines) = (good_block head && good_block aside) ≡ false

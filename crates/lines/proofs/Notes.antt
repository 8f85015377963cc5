-- The values that notes tell are the covered ones.
-- Assumes nothing.
use Rattle.std.specs.Prelude.{Result, Ok, Err}
use mathlib.Core.Path.{◌≡◌, refl, sym, ap, ap₂, ◌∙◌}
use mathlib.Core.List.{List, [], ◌∷◌, map}
use mathlib.Core.Bool.{Bool, true, false, false≢true, ◌&&◌, and-false}
use Prim.Native.Nat.{ℕ, suc, ◌+◌, ◌%◌, ◌≤◌}
use native.Mathlib.Omega.{arith}
use borrow.Author.Tests.{eqb-true, eqb-false, ltb-true, ltb-false}
use lib.Dec.{eqb, leb, ltb}
use lib.ListN.{length, get_or, take, drop, get_or-eq_default}
use lib.Seq.{length-take-le, get_or-take}
use Rattle.cells.specs.Runs.{cut}
use Rattle.lines.specs.Lines.{lines_in, good_block}
use Rattle.lines.specs.Values.{values_in, repeated, joined, or_else, covered_value}
use Rattle.lines.specs.InnerPlaces.{Stands, front_at}
use Rattle.lines.specs.declared.remarks.Notes as Declared
use Rattle.lines.specs.declared.noting.Unnoted.{Unnoted}
use Rattle.lines.specs.declared.noting.Unnoted.TheVariants.{NotLines, Twice}
use Rattle.lines.specs.InnerNotes.{place_of, NoteIs, Notes, NotesOn, NotedIs, note_value, value_by, values_by, Placed}
use Rattle.lines.proofs.Joined.{joined_one, own_more}

-- joined values of which there is one
alone : (v : List ℕ) (vs : List (List ℕ)) → length (v ∷ vs) ≤ 1 → joined (v ∷ vs) ≡ v
alone v [] h = joined_one v
alone v (w ∷ vs) h = absurd (omega arith)

module _ {block name : List ℕ} {note : ℕ} (n : NoteIs block name note) (some : 1 ≤ note) where
  stood : Stands block (place_of note)
  stood = n.stands some

  own : values_in (lines_in block) name ≡ front_at block (place_of note) ∷ values_in (lines_in (drop (stood.end + 2) block)) (cut block (place_of note) stood.colon)
  own = n.values some ∙ own_more block (place_of note) stood

  note_value_lem : note_value block note ≡ joined (values_in (lines_in block) name)
  note_value_lem = go (leb 32768 note) refl
    where
      go : (b : Bool) → leb 32768 note ≡ b → note_value block note ≡ joined (values_in (lines_in block) name)
      go true e = simp e (ap joined (sym (n.values some)))
      go false e =
          let few = ltb-false 1 (length (values_in (lines_in block) name)) (sym n.several ∙ e) in
          simp e (sym (ap joined own ∙ alone _ _ (omega (arith, few, ap length own))))

  chosen_noted : (others : List (List ℕ)) → or_else (values_in (lines_in block) name) others ≡ values_in (lines_in block) name
  chosen_noted others = ap (λ (vs : List (List ℕ)). or_else vs others) own ∙ sym own

module _ {aside head name : List ℕ} {p q : ℕ} (h : NoteIs head name p) (a : NoteIs aside name q) where
  value_noted : value_by aside head p q ≡ covered_value (lines_in aside) (lines_in head) name
  unfolding covered_value joined
  value_noted = go (eqb q 0) refl (eqb p 0) refl
    where
      go : (b : Bool) → eqb q 0 ≡ b → (d : Bool) → eqb p 0 ≡ d → value_by aside head p q ≡ joined (or_else (values_in (lines_in aside) name) (values_in (lines_in head) name))
      go true e true f = simp (e, f, a.none (eqb-true q 0 e), h.none (eqb-true p 0 f))
      go true e false f = let n = eqb-false p 0 f in simp (e, f, a.none (eqb-true q 0 e)) (note_value_lem h (omega arith))
      go false e d f = let n = eqb-false q 0 e in simp e (note_value_lem a (omega arith) ∙ ap joined (sym (chosen_noted a (omega arith) (values_in (lines_in head) name))))

values_by_lem : (aside head : List ℕ) (ns : List (List ℕ)) (ps qs : List ℕ) → length ps ≡ length ns → length qs ≡ length ns → Notes head ns ps → Notes aside ns qs
    → values_by aside head ps qs ≡ map (covered_value (lines_in aside) (lines_in head)) ns
unfolding values_by
values_by_lem aside head [] [] qs e f h a = refl
values_by_lem aside head [] (p ∷ ps) qs e f h a = absurd (omega arith)
values_by_lem aside head (n ∷ ns) [] qs e f h a = absurd (omega arith)
values_by_lem aside head (n ∷ ns) (p ∷ ps) [] e f h a = absurd (omega arith)
values_by_lem aside head (n ∷ ns) (p ∷ ps) (q ∷ qs) e f h a =
    ap₂ ◌∷◌ (value_noted (h 0 (omega arith)) (a 0 (omega arith)))
    (values_by_lem aside head ns ps qs (omega arith) (omega arith) (λ i l. h (suc i) (omega arith)) (λ i l. a (suc i) (omega arith)))

-- the lines that notes on names tell of stand in the block
placed : (block : List ℕ) (ns : List (List ℕ)) (notes : List ℕ) → length notes ≡ length ns → Notes block ns notes → Placed block notes
placed block ns notes e h i some = go (ltb i (length ns)) refl
  where
    go : (b : Bool) → ltb i (length ns) ≡ b → (1 ≤ get_or notes i 0 % 32768) × Stands block (place_of (get_or notes i 0))
    go true l = let note = h i (ltb-true i (length ns) l) in (note.some some, note.stands some)
    go false l = let past = ltb-false i (length ns) l in absurd (omega (arith, get_or-eq_default notes 0 {n = i} (omega arith)))

module _ {ns : List (List ℕ)} {head aside in_head in_aside : List ℕ} (n : NotesOn ns head aside in_head in_aside) where
  pub values_noted : values_by aside head in_head in_aside ≡ map (covered_value (lines_in aside) (lines_in head)) ns
  values_noted = values_by_lem aside head ns in_head in_aside n.long_head n.long_aside n.of_head n.of_aside

  pub placed_noted : Placed head in_head × Placed aside in_aside
  placed_noted = (placed head ns in_head n.long_head n.of_head, placed aside ns in_aside n.long_aside n.of_aside)

-- notes on names, and on as many of them as there are names
noted_front : (block : List ℕ) (ns : List (List ℕ)) (notes : List ℕ) → Notes block ns notes → Notes block ns (take (length ns) notes)
noted_front block ns notes h i l = rw (get_or-take (length ns) notes i 0 l) (h i l)

-- the notes that a look at both blocks leaves, where they are lines
pub notes_of : {ns : List (List ℕ)} {head aside : List ℕ} {count : ℕ} (in_head in_aside : List ℕ) → count ≡ length ns → length ns ≤ 64 → length in_head ≡ 64
    → length in_aside ≡ 64 → Notes head ns in_head → Notes aside ns in_aside → NotesOn ns head aside (take count in_head) (take count in_aside)
notes_of {ns} {head} {aside} in_head in_aside many few long long_aside of_head of_aside =
    rw many (record {
      long_head = length-take-le (length ns) in_head (omega arith);
      long_aside = length-take-le (length ns) in_aside (omega arith);
      of_head = noted_front head ns in_head of_head;
      of_aside = noted_front aside ns in_aside of_aside;
    })

-- without lines no name stands twice
pub unrepeated : (names : List (List ℕ)) → repeated names [] ≡ false
unfolding repeated values_in
unrepeated [] = refl
unrepeated (n ∷ ns) = rw and-false (unrepeated ns)

-- the notes that a look at both blocks leaves, where they are lines
pub notes_on : (ns : List (List ℕ)) (head aside : List ℕ) (notes : Declared.Notes) (r : Result (Unit {0}) Unnoted) → NotedIs ns head aside notes r
    → (good_block head && good_block aside) ≡ true → (notes.count ≤ 64) × NotesOn ns head aside (take notes.count notes.head) (take notes.count notes.aside)
notes_on ns head aside notes (Ok u) is e = (notes.few, is.are)
notes_on ns head aside notes (Err Twice) is e = (notes.few, is.are)
notes_on ns head aside notes (Err NotLines) is e = absurd (false≢true (sym is ∙ e))

-- The covered names are apart, so the notes on both blocks tell of them.
use Rattle.std.proofs.Common.{◌≡◌, ℕ, List, sym, length, true}
use Rattle.std.specs.Prelude.{Bool, ◌&&◌, ◌||◌}
use Rattle.cells.proofs.Tests.{both}
use Rattle.names.specs.InnerSheet.{Sheet}
use Rattle.names.proofs.Apart.{covered_apart}
use Rattle.lines.specs.declared.remarks.Notes as Declared
use Rattle.lines.specs.InnerNotes.{Apart, NotesTaken, RepeatsIs, Told}
use Rattle.lines.proofs.Notes.{notes_of}
use Rattle.lines.proofs.noting.note.Goals as goal

-- what the sheet, the notes and the repeated names of both blocks come to
noted : {known extra sheet head aside : List ℕ} {ns : List (List ℕ)} {g h s t : Bool} (notes : Declared.Notes) (twice : Bool) → Sheet known extra sheet ns
    → notes.count ≡ length ns → Apart ns → length notes.head ≡ 64 → length notes.aside ≡ 64 → NotesTaken known extra sheet head notes.head g
    → NotesTaken known extra sheet aside notes.aside h → RepeatsIs known extra sheet notes.head notes.count s
    → RepeatsIs known extra sheet notes.aside notes.count t → (g && h) ≡ true → (s || t) ≡ twice → Told ns head aside notes twice
noted {head} {aside} {ns} {g} {h} notes twice on many apart long long_aside taken taken_aside repeats repeats_aside good is =
    let parts = both g h good in
    let of_head = taken.1 ns on apart parts.0 in
    let of_aside = taken_aside.1 ns on apart parts.1 in
    record {
      good = rw (← taken.0, ← taken_aside.0) good;
      twice_is = rw (← repeats ns head on (sym many) of_head, ← repeats_aside ns aside on (sym many) of_aside) is;
      are = notes_of notes.head notes.aside many on.few long long_aside of_head of_aside;
    }

pub returns-then-repeats-clause-told : goal.returns-then-repeats-clause-told
returns-then-repeats-clause-told c =
    let head = c.note_block-head_good.ensures in
    let aside = c.note_block-aside_good.ensures in
    noted _ _ c.of-sheet.ensures.names c.of-sheet.ensures.count (covered_apart _ _ c.args.covered.now.good) head.size aside.size head.taken aside.taken
    c.repeats.ensures c.repeats-2.ensures c.if-not-head_good-aside_good.false c.if-repeats.true

pub returns-clause-told : goal.returns-clause-told
returns-clause-told c =
    let head = c.note_block-head_good.ensures in
    let aside = c.note_block-aside_good.ensures in
    noted _ _ c.of-sheet.ensures.names c.of-sheet.ensures.count (covered_apart _ _ c.args.covered.now.good) head.size aside.size head.taken aside.taken
    c.repeats.ensures c.repeats-2.ensures c.if-not-head_good-aside_good.false c.if-repeats.false

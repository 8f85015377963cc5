use Rattle.std.proofs.Common.{◌≡◌, ◌+◌, ◌<◌, ℕ, List, [], length, get_or, drop, sym, ◌∙◌, add-one, arith}
use Rattle.std.specs.Prelude.{not, ◌&&◌, ◌||◌, leb}
use borrow.Author.Tests.{le-leb, lt-leb}
use mathlib.Core.Bool.{and-false}
use lib.ListN.{drop_of_length-le}
use lib.Seq.{drop-cons}
use Rattle.names.specs.Lists.{is_list}
use Rattle.names.specs.InnerSheet.{named, Sheet}
use Rattle.lines.specs.Lines.{lines_in}
use Rattle.lines.specs.Values.{repeated}
use Rattle.lines.specs.InnerNotes.{NoteIs}
use Rattle.lines.proofs.noting.repeats.Goals as goal
use Rattle.lines.proofs.noting.repeats.Goals.{else-notes-i-ge32768-via-then-notes-i-ge32768+else-single, else-notes-i-ge32768-via-else-notes-i-ge32768}

-- whether the name at an index of a sheet or one after it is repeated
repeated_next : {known extra sheet block : List ℕ} {ns : List (List ℕ)} {note : ℕ} (on : Sheet known extra sheet ns) (i : ℕ) → i < length ns
    → NoteIs block (get_or ns i []) note
    → repeated (drop i ns) (lines_in block)
    ≡ (not (is_list (named known extra (get_or sheet (128 + i) 0))) && leb 32768 note || repeated (drop (i + 1) ns) (lines_in block))
unfolding repeated
repeated_next {ns} on i h is = rw (on.names i h, is.several, add-one, drop-cons ns i [] h)

pub returns-then-single : goal.returns-then-single
returns-then-single c = λ ns block on many are.
    let loop = c.loop-i in
    sym (loop.invariant ns block on many are ∙ repeated_next on loop.i (omega arith) (are loop.i (omega arith))
    ∙ simp (← c.single.ensures, c.if-single.true, le-leb _ _ c.if-notes-i-ge32768.true))

pub loop-i-preserved : goal.loop-i-preserved
loop-i-preserved c = λ ns block on many are.
    let loop = c.loop-i in
    loop.invariant ns block on many are ∙ repeated_next on loop.i (omega arith) (are loop.i (omega arith))
    ∙ elim c.else-notes-i-ge32768.branch [
      | else-notes-i-ge32768-via-then-notes-i-ge32768+else-single w ↦ simp (← w.single.ensures, w.if-single.false)
      | else-notes-i-ge32768-via-else-notes-i-ge32768 w ↦ simp (lt-leb _ _ w.if-notes-i-ge32768.false, and-false)
    ]

pub returns : goal.returns
unfolding repeated
returns c = λ ns block on many are.
    sym (c.loop-i.invariant ns block on many are ∙ rw (drop_of_length-le ns {i = c.loop-i.i} (omega arith)))

-- The lines that end in the part are counted, and the rest of it is kept.
-- Assumes nothing.
use Rattle.std.proofs.Common.{List, ℕ, take, drop, subst}
use Rattle.std.proofs.Math.ListN.{take-append-drop}
use Rattle.cells.proofs.Cuts.{cut_rest}
use Rattle.logs.specs.Taken.{TookIn}
use Rattle.logs.proofs.States.{took_more, took_lines}
use Rattle.logs.proofs.state.State.whole.Goals as goal

pub returns : goal.returns
returns c =
    let self = c.args.self.now in
    let part : List ℕ = c.args.part.now in
    let lines = c.count_lines-at in
    let at = lines.result in
    let end = c.keep.new.self in
    subst (λ (text : List ℕ). TookIn self text end) (take-append-drop at part)
    (took_more self _ end (take at part) (drop at part) (took_lines self _ part at c.requires.0 c.requires.0 lines.ensures)
    (rw (cut_rest part at) at c.keep.ensures))

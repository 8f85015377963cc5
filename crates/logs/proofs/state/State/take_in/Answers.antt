-- The line that is begun is kept or ends, and then lines are counted where they lie.
-- Assumes nothing.
use Rattle.std.proofs.Common.{List, [], ◌∷◌, ◌++◌, ℕ, ◌+◌, take, drop, sym, ap, subst, ◌∙◌}
use Rattle.std.proofs.Math.Nat.{sub-zero}
use Rattle.std.proofs.Math.ListN.{take-append-drop}
use Rattle.cells.proofs.Cuts.{cut_rest}
use Rattle.cells.proofs.Spans.{span_all}
use Rattle.logs.specs.Line.{other}
use Rattle.logs.specs.Counts.{LF}
use Rattle.logs.specs.Taken.{TookIn}
use Rattle.logs.proofs.Lines.{next_line}
use Rattle.logs.proofs.States.{took_more}
use Rattle.logs.proofs.state.State.take_in.Goals as goal

pub keep-requires : goal.keep-requires
keep-requires c = rw (sub-zero c.find-end.result) at (span_all (other LF) _ 0 _ c.find-end.ensures)

pub returns-then-end-part : goal.returns-then-end-part
returns-then-end-part c =
    let self = c.args.self.now in
    let part : List ℕ = c.args.part.now in
    let end = c.find-end.result in
    let kept = c.keep.new.self in
    let ended = c.end_line.new.self in
    let done = c.whole.new.self in
    subst (λ (text : List ℕ). TookIn self text done)
    (ap (λ (text : List ℕ). text ++ drop (end + 1) part) (sym (rw (sub-zero end) at (next_line part 0 end c.find-end.ensures c.if-end-part.true)))
    ∙ take-append-drop (end + 1) part)
    (took_more self ended done (take end part ++ LF ∷ []) (drop (end + 1) part)
    (took_more self kept ended (take end part) (LF ∷ []) c.keep.ensures c.end_line.ensures.0)
    (rw (cut_rest part (end + 1)) at c.whole.ensures))

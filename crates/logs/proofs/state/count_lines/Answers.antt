-- A line more in each turn.
-- Assumes nothing.
use Rattle.std.proofs.Common.{List, ℕ, take, refl, sym, ap, ◌∙◌, arith}
use Rattle.cells.specs.Runs.{cut}
use Rattle.logs.specs.Counts.{lines, under, sum}
use Rattle.logs.specs.InnerLines.{counted, counted_all}
use Rattle.logs.proofs.Lines.{next_told, next_ends, ended_none, last_unended}
use Rattle.logs.proofs.Counting.{counted_more, sum_set_most}
use Rattle.logs.proofs.state.count_lines.Goals as goal

pub loop-end-init : goal.loop-end-init
unfolding lines counted_all
loop-end-init c = (omega arith, c.find-end.ensures, refl, ended_none, omega arith)

pub loop-end-preserved : goal.loop-end-preserved
loop-end-preserved c =
    let part : List ℕ = c.args.part.now in
    let start = c.args.counts.now in
    let turn = c.loop-end in
    let span = turn.invariant.1 in
    let line = cut part turn.at turn.end in
    let more = c.loop-end-test.true in (
      omega arith,
      c.find-end-in-loop-end.ensures,
      c.count.ensures
          ∙ ap (λ (ns : List ℕ). counted ns line) turn.invariant.2
          ∙ sym (counted_more start (lines (take turn.at part)) line)
          ∙ ap (counted_all start) (sym (next_told part turn.at turn.end span more turn.invariant.3)),
      next_ends part turn.at turn.end span more turn.invariant.3,
      omega (arith, ap sum c.count.ensures, sum_set_most turn.counts (under line), turn.invariant, span.is),
    )

pub returns : goal.returns
returns c = let inv = c.loop-end.invariant in record {
  within = inv.0;
  is = inv.2;
  most = inv.4;
  ends = inv.3;
  unended = last_unended c.args.part.now c.loop-end.at c.loop-end.end inv.1 (omega (arith, inv.1.within));
}

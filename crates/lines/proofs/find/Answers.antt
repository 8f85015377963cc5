use Rattle.std.proofs.Common.{sym, ◌∙◌, arith}
use Rattle.lines.specs.Values.{values_in}
use Rattle.lines.proofs.Lines.{lines_stop}
use Rattle.lines.proofs.Named.{values_own, values_past}
use Rattle.lines.proofs.find.Goals as goal

pub returns-then-same_name : goal.returns-then-same_name
returns-then-same_name c =
    let at = c.loop-line in
    let same = sym c.same_name.ensures ∙ c.if-same_name.true in
    record {
      from = at.invariant.0;
      stands = record { colon = _; end = _; is = c.in-Some.ensures };
      are = at.invariant.2 ∙ values_own _ _ _ _ c.in-Some.ensures _ same;
    }

pub loop-line-preserved : goal.loop-line-preserved
loop-line-preserved c =
    let at = c.loop-line in
    let whole = c.in-Some.ensures in
    let other = sym c.same_name.ensures ∙ c.if-same_name.false in
    (omega (arith, whole), whole.within, at.invariant.2 ∙ values_past _ _ _ _ whole _ other)

pub returns : goal.returns
unfolding values_in
returns c = c.loop-line.invariant.2 ∙ simp (lines_stop _ c.in_default.ensures)

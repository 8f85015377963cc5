-- A line more is taken in, and at the end none is left.
-- Assumes nothing.
use Rattle.std.proofs.Common.{sym, subst, ◌∙◌, arith, List, ℕ}
use borrow.Author.Tests.{eqb-true}
use Rattle.names.proofs.Walk.{extra_none}
use Rattle.sha_2.specs.InnerTaken.{TookIn}
use Rattle.sha_2.proofs.Streaming.{took_in_turn}
use Rattle.signatures.specs.InnerAnswers.{message_in}
use Rattle.signatures.proofs.Names.{component_quoted}
use Rattle.signatures.proofs.Values.{value_shown}
use Rattle.signatures.proofs.Pieces.{took_none, lines_shown, lines_long, lines_past, components_first}
use Rattle.signatures.proofs.absorb_lines.Goals as goal

pub returns-then-is_empty : goal.returns-then-is_empty
returns-then-is_empty c =
    rw (lines_past _ (extra_none c.args.names.now (eqb-true _ 0 (sym c.is_empty.ensures ∙ c.if-is_empty.true)))) (took_none c.args.state.now)

pub absorb_line-requires : goal.absorb_line-requires
absorb_line-requires c =
    let m = message_in c.args.message.now in
    let e = c.in-Some.ensures.steps in
    let shown = value_shown m c.in-Some.name.now c.put_value.new.out c.put_value.result c.unwrap_or-size.result c.put_value.ensures c.unwrap_or-size.ensures in
    (component_quoted c.in-Some.name.now (components_first m e c.loop-name.invariant.components).0, omega (arith, lines_long m e shown, c.loop-name.invariant.room))

pub loop-name-preserved : goal.loop-name-preserved
loop-name-preserved c =
    let m = message_in c.args.message.now in
    let turn = c.loop-name.invariant in
    let e = c.in-Some.ensures.steps in
    let shown = value_shown m c.in-Some.name.now c.put_value.new.out c.put_value.result c.unwrap_or-size.result c.put_value.ensures c.unwrap_or-size.ensures in
    record {
      components = (components_first m e turn.components).1;
      room = omega (arith, lines_long m e shown, turn.room, c.absorb_line.ensures.counted);
      took = λ r p. turn.took r (subst (λ (l : List ℕ). TookIn c.loop-name.state l r) (sym (lines_shown m e shown))
          (took_in_turn _ _ r _ _ c.absorb_line.ensures p));
    }

pub returns : goal.returns
returns c = c.loop-name.invariant.took c.loop-name.state (rw (lines_past _ c.in-None.ensures.steps.0) (took_none c.loop-name.state))

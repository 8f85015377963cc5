-- A dash alone, or digits.
-- Assumes nothing.
use Rattle.std.proofs.Common.{◌≡◌, ◌∙◌, rules, eqb, length, arith}
use Rattle.cells.specs.Spans.{all, leading}
use Rattle.cells.proofs.Spans.{all_test}
use Rattle.logs.specs.Line.{digit}
use Rattle.logs.proofs.Parts.{size_dash, size_digits}
use Rattle.logs.proofs.line.size.Goals as goal

pub returns-then-text-eq45 : goal.returns-then-text-eq45
returns-then-text-eq45 c = size_dash c.args.text.now c.requires c.if-text-eq45.true

pub returns : goal.returns
returns c =
    let text = c.args.text.now in
    let spans = c.end.ensures digit (λ b r h post. search rules) in
    let ends : c.end.result ≡ leading digit text = omega (arith, spans.is) in
    let is : eqb c.end.result (length text) ≡ all digit text = simp (ends, all_test) in
    is ∙ size_digits text c.requires c.if-text-eq45.false

-- A byte that passes carries the search on, and one that doesn't ends it, as the end of the run does.
use Rattle.std.proofs.Common.{rules, sym, ◌∙◌, ◌≡◌, length, get_or, subst, ℕ}
use Rattle.cells.specs.Spans.{Spans}
use Rattle.cells.proofs.Spans.{passed_more, passed_stop, passed_end}
use Rattle.cells.proofs.end.Goals as goal

pub returns-then-not-passes : goal.returns-then-not-passes
returns-then-not-passes g c p says =
    passed_stop p _ _ _ (c.loop-i.invariant.1 p says) c.loop-i-test.true
    (sym (says (get_or c.args.run.now c.loop-i.i 0) c.passes.result (search rules) c.passes.ensures) ∙ c.if-not-passes.true)

pub loop-i-preserved : goal.loop-i-preserved
loop-i-preserved g c = (
  search rules,
  λ p says.
      passed_more p _ _ _ (c.loop-i.invariant.1 p says) c.loop-i-test.true
      (sym (says (get_or c.args.run.now c.loop-i.i 0) c.passes.result (search rules) c.passes.ensures) ∙ c.if-not-passes.false),
)

pub returns : goal.returns
returns g c p says =
    let all : c.loop-i.i ≡ length c.args.run.now = search rules in
    subst (λ (i : ℕ). Spans p c.args.run.now c.args.at i) all (passed_end p _ _ _ (c.loop-i.invariant.1 p says) (search rules))

-- The byte at the index is one of all, and past the end there is none.
use Rattle.std.proofs.Common.{rules, sym, ap, ◌∙◌, ◌+◌, Bool, get_or, drop}
use Rattle.std.specs.Prelude.{◌&&◌}
use mathlib.Core.Bool.{and_assoc}
use Rattle.cells.specs.Spans.{all}
use Rattle.cells.proofs.Spans.{all_from, all_past}
use Rattle.cells.proofs.all.Goals as goal

pub loop-b-preserved : goal.loop-b-preserved
loop-b-preserved g c = (
  search rules,
  λ p says.
      let turn = c.loop-b in
      let here = says (get_or c.args.run.now turn.b-index 0) c.passes-good.result (search rules) c.passes-good.ensures in
      and_assoc turn.good c.passes-good.result _
      ∙ ap (λ (t : Bool). turn.good && (t && all p (drop (turn.b-index + 1) c.args.run.now))) here
      ∙ ap (λ (t : Bool). turn.good && t) (sym (all_from p _ turn.b-index c.loop-b-test.true))
      ∙ turn.invariant.1 p says,
)

pub returns : goal.returns
returns g c p says = sym (all_past p _ c.loop-b.good c.loop-b.b-index (search rules)) ∙ c.loop-b.invariant.1 p says

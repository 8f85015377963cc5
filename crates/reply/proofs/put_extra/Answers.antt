-- `put_extra` meets its contract.
-- Assumes nothing.
use Rattle.std.proofs.Common.{List, ℕ, sym, subst, ◌∙◌, arith}
use Rattle.std.proofs.lemmas.Bool.{eqb-true, eqb-false}
use Rattle.cells.specs.InnerLaid.{Laid}
use Rattle.cells.specs.Text.{codes}
use Rattle.cells.proofs.Laid.{laid_none}
use Rattle.armor.specs.Value.{Field, following}
use Rattle.reply.proofs.Laying.{no_extra, some_extra}
use Rattle.reply.proofs.put_extra.Goals as goal

pub returns-then-is_empty : goal.returns-then-is_empty
returns-then-is_empty c =
    let a = c.args in
    let empty = eqb-true _ 0 (sym c.is_empty.ensures ∙ c.if-is_empty.true) in
    (omega arith, subst (λ (text : List ℕ). Laid a.out.now a.out.now a.at a.at text) (sym (no_extra a.extra.now empty)) (laid_none a.out.now a.at))

pub returns : goal.returns
unfolding codes
returns c =
    let a = c.args in
    let f = c.put_next in
    let some = eqb-false _ 0 (sym c.is_empty.ensures ∙ c.if-is_empty.false) in (
      omega (arith, c.requires, f.ensures.0),
      subst (λ (fs : List Field). Laid a.out.now f.new.out a.at f.result (following fs)) (sym (some_extra a.extra.now some)) f.ensures.1,
    )

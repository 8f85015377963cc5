-- The first string is laid, and each of the others with a blank before it.
-- Assumes nothing.
use Rattle.std.proofs.Common.{refl, sym, ap, ◌∙◌, [], ◌∷◌, ◌++◌}
use Rattle.cells.proofs.Laid.{laid_none}
use Rattle.structured.specs.Texts.{SP, string, further, strings}
use Rattle.structured.proofs.Laying.{laying_none, laying_next, laying_more, laying_all}
use Rattle.structured.proofs.put_strings.Goals as goal

pub returns-in_default : goal.returns-in_default
unfolding strings
returns-in_default c = rw (← c.of-left.ensures, c.in_default.ensures.steps.0) (laid_none _ _)

pub put_string-end-requires : goal.put_string-end-requires
unfolding strings
put_string-end-requires c =
    laying_next (laying_none c.args.out.now c.args.at c.requires refl) (string c.in-Some.first.now) (further _)
    (ap strings (sym c.of-left.ensures ∙ c.in-Some.ensures.steps))

pub loop-name-init : goal.loop-name-init
unfolding strings
loop-name-init c =
    rw c.into_iter-name-iterator.ensures.into_iter_gives
    (laying_more (laying_none c.args.out.now c.args.at c.requires refl) (ap strings (sym c.of-left.ensures ∙ c.in-Some.ensures.steps)) c.put_string-end.ensures)

pub put_at-end-requires : goal.put_at-end-requires
unfolding further
put_at-end-requires c =
    laying_next c.loop-name.invariant (SP ∷ []) (string c.in-Some-name.name.now ++ further _) (ap further c.in-Some-name.ensures.steps)

pub put_string-end-requires-in-loop-name : goal.put_string-end-requires-in-loop-name
unfolding further
put_string-end-requires-in-loop-name c =
    laying_next (laying_more c.loop-name.invariant (ap further c.in-Some-name.ensures.steps) c.put_at-end.ensures)
    (string c.in-Some-name.name.now) (further _) refl

pub loop-name-preserved : goal.loop-name-preserved
unfolding further
loop-name-preserved c =
    laying_more (laying_more c.loop-name.invariant (ap further c.in-Some-name.ensures.steps) c.put_at-end.ensures) refl
    c.put_string-end-in-loop-name.ensures

pub returns : goal.returns
unfolding further
returns c = laying_all c.loop-name.invariant (ap further c.in-None.ensures.steps.0)

use Rattle.std.proofs.Common.{ap, sym, ◌∙◌}
use Rattle.names.specs.Extra.{good_names}
use Rattle.names.proofs.extra.good_names.Goals as goal

pub returns-then-not-is_allowed-have : goal.returns-then-not-is_allowed-have
unfolding good_names
returns-then-not-is_allowed-have c =
    sym (c.loop-name.invariant ∙ ap good_names c.in-Some.ensures.steps ∙ simp (← c.is_allowed.ensures, ← c.have.ensures, c.if-not-is_allowed-have.true))

pub loop-name-preserved : goal.loop-name-preserved
unfolding good_names
loop-name-preserved c =
    c.loop-name.invariant ∙ ap good_names c.in-Some.ensures.steps ∙ simp (← c.is_allowed.ensures, ← c.have.ensures, c.if-not-is_allowed-have.false)

pub returns : goal.returns
unfolding good_names
returns c = sym (c.loop-name.invariant ∙ ap good_names c.in_default.ensures.steps.0)

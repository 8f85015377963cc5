-- The three cases of a nonce: the first, one above the highest, and any other.
use Rattle.std.proofs.Common.{rules}
use Rattle.window.specs.Window.{step_of}
use Rattle.window.proofs.Window.step.Goals as goal

pub returns-then-not-self : goal.returns-then-not-self
unfolding step_of
returns-then-not-self c = search rules

pub returns-then-lt : goal.returns-then-lt
unfolding step_of
returns-then-lt c = search rules

pub returns : goal.returns
unfolding step_of
returns c = search rules

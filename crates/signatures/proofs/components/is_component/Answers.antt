-- A derived component, or a field's name.
-- Assumes nothing.
use Rattle.signatures.specs.Components.{is_field, is_component}
use Rattle.signatures.proofs.components.is_component.Goals as goal

pub returns : goal.returns
unfolding is_component is_field
returns c = simp (c.is_derived.ensures, c.is_token.ensures, c.all_small.ensures)

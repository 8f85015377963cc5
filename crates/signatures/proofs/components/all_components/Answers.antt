-- The test of all names is that of the list.
-- Assumes nothing.
use Rattle.std.proofs.Common.{rules, ◌≡◌, refl, ap, ◌∙◌, List, ℕ, [], ◌∷◌}
use Rattle.std.specs.List.{list_all}
use Rattle.std.proofs.lemmas.Iterator.Consumers.{YieldsList-from_first}
use Rattle.std.proofs.lemmas.Iterator.Search.{all_from_yields_List}
use Rattle.structured.specs.Lists.{every}
use Rattle.names.specs.InnerWalk.{names_left}
use Rattle.signatures.specs.Components.{is_component, all_components}
use Rattle.signatures.proofs.components.all_components.Goals as goal

every_all : (ns : List (List ℕ)) → list_all is_component ns ≡ every is_component ns
unfolding every
every_all [] = refl
every_all (n ∷ ns) = rw (every_all ns) refl

pub returns : goal.returns
unfolding all_components
returns c =
    all_from_yields_List is_component _ _ _ c.all.ensures.ran (YieldsList-from_first (λ x. x.now) names_left _ refl) (λ x b q h. search rules)
    ∙ every_all _ ∙ ap (every is_component) c.of.ensures

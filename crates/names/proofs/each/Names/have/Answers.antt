use Rattle.std.proofs.Common.{rules, refl, ◌∙◌}
use Rattle.std.proofs.lemmas.Iterator.Consumers.{YieldsList-from_first}
use Rattle.std.proofs.lemmas.Iterator.Search.{any_from_yields_List}
use Rattle.names.specs.Names.{same_name}
use Rattle.names.specs.InnerWalk.{names_left}
use Rattle.names.proofs.Has.{has_any}
use Rattle.names.proofs.each.Names.have.Goals as goal

pub returns : goal.returns
returns c =
    any_from_yields_List (λ n. same_name n c.args.name.now) _ _ _ c.any.ensures.ran (YieldsList-from_first (λ x. x.now) names_left _ refl) (λ x b q h. search rules)
    ∙ has_any _ _

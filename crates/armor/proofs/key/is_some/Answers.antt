-- `is_some` meets its contract.
-- Assumes nothing.
use Rattle.std.proofs.Common.{true, leb, refl, rules}
use mathlib.Core.Bool.{and-true}
use Rattle.armor.specs.Keys.{free, obeys}
use Rattle.armor.proofs.Texts.{measured_test}
use Rattle.armor.proofs.key.is_some.Goals as goal

pub returns : goal.returns
unfolding obeys
returns c =
    measured_test free (λ n. true) (λ n. leb 1 n) (λ bs. refl) (λ n. and-true _) _ c.args.text.now _ _ c.measure.ensures c.is_some_and.ensures (λ n post. search rules)

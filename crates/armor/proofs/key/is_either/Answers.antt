-- `is_either` meets its contract.
-- Assumes nothing.
use Rattle.std.proofs.Common.{ℕ, ◌||◌, eqb, refl, rules}
use Rattle.armor.specs.Keys.{either, obeys}
use Rattle.armor.proofs.Texts.{measured_test, either_test}
use Rattle.armor.proofs.key.is_either.Goals as goal

pub returns : goal.returns
unfolding obeys
returns c =
    let a = c.args in
    let fits = λ (n : ℕ). eqb n a.short || eqb n a.long in
    measured_test (either a.short a.long) fits fits (λ bs. refl) (λ n. either_test n a.short a.long c.requires.0 c.requires.1) _ a.text.now _ _
    c.measure.ensures c.is_some_and.ensures (λ n post. search rules)

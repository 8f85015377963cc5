-- `is_sized` meets its contract.
-- Assumes nothing.
use Rattle.std.proofs.Common.{ℕ, ◌&&◌, leb, refl, rules}
use Rattle.armor.specs.Keys.{sized, obeys}
use Rattle.armor.proofs.Texts.{measured_test, sized_test}
use Rattle.armor.proofs.key.is_sized.Goals as goal

pub returns : goal.returns
unfolding obeys
returns c =
    let a = c.args in
    let fits = λ (n : ℕ). leb a.low n && leb n a.high in
    measured_test (sized a.low a.high) fits fits (λ bs. refl) (λ n. sized_test n a.low a.high c.requires) _ a.text.now _ _ c.measure.ensures
    c.is_some_and.ensures (λ n post. search rules)

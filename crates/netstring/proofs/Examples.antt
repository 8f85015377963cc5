-- Worked examples of the published layout, which antt computes from the definition: "hello world!", and nothing.
-- Assumes nothing.
use mathlib.Core.List.{[], ◌∷◌}
use mathlib.Core.Path.{◌≡◌, refl}
use Rattle.cells.specs.Decimal.{decimal_to, decimal}
use Rattle.netstring.specs.Netstring.{netstring}

pub hello : netstring (104 ∷ 101 ∷ 108 ∷ 108 ∷ 111 ∷ 32 ∷ 119 ∷ 111 ∷ 114 ∷ 108 ∷ 100 ∷ 33 ∷ [])
    ≡ 49 ∷ 50 ∷ 58 ∷ 104 ∷ 101 ∷ 108 ∷ 108 ∷ 111 ∷ 32 ∷ 119 ∷ 111 ∷ 114 ∷ 108 ∷ 100 ∷ 33 ∷ 44 ∷ []
unfolding netstring decimal decimal_to
hello = refl

pub nothing : netstring [] ≡ 48 ∷ 58 ∷ 44 ∷ []
unfolding netstring decimal decimal_to
nothing = refl

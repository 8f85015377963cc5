-- Quoted text as the numbers of its characters.
-- Assumes nothing.
use Rattle.std.specs.Prelude.{ℕ, List, [], ◌∷◌}
use Prim.Native.Char.{code}
use Prim.Native.String.{String, [] as done, ◌∷◌ as ◌then◌}

unfoldable pub codes : String → List ℕ
codes done = []
codes (◌then◌ c text) = code c ∷ codes text

-- Texts that each pass a test.
-- Assumes nothing.
use Rattle.std.specs.Prelude.{ℕ, List, [], ◌∷◌, Bool, true, ◌&&◌}

unfoldable pub every : (List ℕ → Bool) → List (List ℕ) → Bool
every p [] = true
every p (t ∷ ts) = p t && every p ts

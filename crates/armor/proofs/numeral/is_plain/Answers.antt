-- `is_plain` meets its contract.
-- Assumes nothing.
use Rattle.std.proofs.Common.{◌≡◌, true, not, List, [], ◌∷◌, ℕ, ◌≤◌, ◌<◌, eqb, refl, ◌∙◌, arith, length, get_or, lt-ltb}
use Rattle.armor.specs.Numerals.{plain}
use Rattle.armor.proofs.numeral.is_plain.Goals as goal

few : (bs : List ℕ) → length bs < 2 → true ≡ plain bs
unfolding plain
few [] h = refl
few (b ∷ []) h = refl
few (b ∷ c ∷ bs) h = absurd (omega arith)

many : (bs : List ℕ) → 2 ≤ length bs → not (eqb (get_or bs 0 0) 0) ≡ plain bs
unfolding plain
many [] h = absurd (omega arith)
many (b ∷ []) h = absurd (omega arith)
many (b ∷ c ∷ bs) h = refl

pub returns-then-bytes-lt2 : goal.returns-then-bytes-lt2
returns-then-bytes-lt2 c = lt-ltb _ _ c.if-bytes-lt2.true ∙ few _ c.if-bytes-lt2.true

pub returns-else-bytes-lt2 : goal.returns-else-bytes-lt2
returns-else-bytes-lt2 c = many _ c.if-bytes-lt2.false

-- What the tests of a record say.
-- Assumes nothing.
use mathlib.Core.Path.{◌≡◌, refl, ap, ◌∙◌}
use mathlib.Core.List.{List}
use mathlib.Core.Bool.{Bool, true, false}
use Prim.Native.Nat.{ℕ}
use borrow.Author.Tests.{eqb-true, eq-eqb}
use Rattle.table.specs.declared.session.Record.{Record}
use Rattle.cells.specs.Runs.{same}
use Rattle.table.specs.Table.{holds}
use Rattle.cells.proofs.Tests.{both}
use Rattle.cells.proofs.Equality.{same_equal, same_self}

pub refuted : (t : Bool) → (t ≡ true → ⊥) → t ≡ false
refuted true h = absurd (h refl)
refuted false h = refl

-- a record holds an IV exactly if it is used and has that IV
pub holds_used : (iv : List ℕ) (r : Record) → holds iv r ≡ true → (r.used ≡ 1) × (r.iv ≡ iv)
holds_used iv r e =
    let parts = both _ _ e in
    (eqb-true r.used 1 parts.0, same_equal r.iv iv parts.1)

pub used_holds : (iv : List ℕ) (r : Record) → r.used ≡ 1 → r.iv ≡ iv → holds iv r ≡ true
used_holds iv r u e = rw (eq-eqb r.used 1 u) (ap (λ (l : List ℕ). same l iv) e ∙ same_self iv)

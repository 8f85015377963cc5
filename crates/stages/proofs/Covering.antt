-- What the notes on the covered names come to: checks 6 to 8, and the notes for the signature.
-- Assumes nothing.
use mathlib.Core.Path.{◌≡◌}
use mathlib.Core.Bool.{Bool, true, false, cond, not, and-false}
use Prim.Native.Nat.{ℕ}
use Rattle.std.specs.Prelude.{Err}
use Rattle.names.specs.Names.{is_token}
use Rattle.names.specs.Covered.{covered_names}
use Rattle.names.specs.declared.covered.Covered.{Covered}
use Rattle.lines.specs.InnerNotes.{Told, NotedIs}
use Rattle.lines.specs.declared.noting.Unnoted.{Unnoted}
use Rattle.lines.specs.declared.remarks.Notes.{Notes}
use Rattle.coverage.specs.Coverage.{as_ordered}
use Rattle.orders.specs.Orders.{CoveredBy}
use Rattle.stages.specs.declared.refusal.Refusal.{Refusal}
use Rattle.stages.specs.InnerRefusals.{number_of, RefusedUnnoted}
use Rattle.stages.specs.Request.{Request}
use Rattle.stages.specs.Checks.{first}
use Rattle.stages.specs.Parts.{fields_of, twice, covering_part}

module _ (q : Request) where
  pub no_token : is_token q.method ≡ false → 6 ≡ first (covering_part q)
  unfolding covering_part
  no_token e = simp e

  module _ (covered : Covered) (by : CoveredBy q.orders covered) (notes : Notes) (token : is_token q.method ≡ true) where
    pub unnoted : (why : Unnoted) → NotedIs (covered_names covered.mask covered.extra.now) q.head q.aside notes (Err why)
        → (r : Refusal) → RefusedUnnoted why r → number_of r ≡ first (covering_part q)
    unfolding covering_part twice
    unnoted Unnoted.NotLines told r is = rw is (simp (told, and-false))
    unnoted Unnoted.Twice told r is = rw is (simp (token, told.good, ← by.mask, ← by.extra, told.twice_is))

    pub compared : Told (covered_names covered.mask covered.extra.now) q.head q.aside notes false
        → (hashes : ℕ) → hashes ≡ q.orders.numbers.hashes
        → (right : Bool) → right ≡ as_ordered hashes covered.mask covered.extra.now (fields_of q) → cond (not right) 8 0 ≡ first (covering_part q)
    unfolding covering_part twice
    compared told hashes allowed right is = simp (token, told.good, ← by.mask, ← by.extra, ← allowed, told.twice_is, is)

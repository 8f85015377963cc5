-- The netstring that a run begins with: its part, and what stands after it.
-- Assumes nothing.
use mathlib.Core.List.{List, ◌∷◌, ◌++◌}
use mathlib.Core.Path.{◌≡◌, sym, ap, ◌∙◌}
use Prim.Native.Nat.{ℕ, suc}
use native.Mathlib.Numerals.{add-one}
use native.Mathlib.Omega.{arith}
use borrow.Author.Tests.{ne_eqb}
use lib.ListN.{length, drop}
use lib.Seq.{take-append_seam, drop-append_seam, drop-append-add}
use Rattle.cells.specs.Decimal.{decimal}
use Rattle.netstring.specs.Netstring.{colon, comma, netstring}
use Rattle.cells.proofs.Digits.{Digits, one, ◌then◌, decimal_digits, value_decimal}
use Rattle.netstring.proofs.Determined.{netstring_then}
use Rattle.token.specs.Token.{before_colon, front_part, after_part}

before_digits : {ds : List ℕ} → Digits ds → (u : List ℕ) → before_colon (ds ++ (colon ∷ u)) ≡ ds
unfolding before_colon
before_digits (one {d} l h) u = simp (ne_eqb d colon (λ e. omega arith))
before_digits (◌then◌ {d} b ds) u = simp (ne_eqb d colon (λ e. omega (arith, b.1)), before_digits ds u)

past : (ds : List ℕ) (d : ℕ) (u : List ℕ) → drop (suc (length ds)) (ds ++ (d ∷ u)) ≡ u
past ds d u = ap (λ (n : ℕ). drop n (ds ++ (d ∷ u))) (sym (add-one (length ds))) ∙ drop-append-add ds (d ∷ u) 1

module _ (bs rest : List ℕ) where
  before : before_colon (netstring bs ++ rest) ≡ decimal (length bs)
  before = ap before_colon (netstring_then bs rest) ∙ before_digits (decimal_digits (length bs)) (bs ++ (comma ∷ rest))

  pub front_part_lem : front_part (netstring bs ++ rest) ≡ bs
  unfolding front_part
  front_part_lem = rw (before, value_decimal, netstring_then, past) (take-append_seam bs (comma ∷ rest))

  pub after_part_lem : after_part (netstring bs ++ rest) ≡ rest
  unfolding after_part
  after_part_lem = rw front_part_lem (drop-append_seam (netstring bs) rest)

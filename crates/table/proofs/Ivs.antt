-- An IV in a table's bytes is told by its first eight bytes and its last four, each taken as a number.
-- Assumes nothing.
use mathlib.Core.Path.{◌≡◌, refl, sym, ap, ap₂, ◌∙◌}
use mathlib.Core.List.{List, ◌++◌}
use mathlib.Core.Bool.{Bool, true, false}
use Prim.Native.Nat.{ℕ, ◌+◌, ◌≤◌}
use native.Mathlib.Nat.{add-zero}
use native.Mathlib.Omega.{arith}
use borrow.Author.Tests.{eqb-true, eqb-false}
use lib.Dec.{eqb}
use lib.ListN.{length, take, drop}
use lib.Seq.{take_all, take-add, drop-drop}
use Rattle.cells.specs.Runs.{part, same, Bytes}
use Rattle.cells.specs.Numbers.{bytes_of, number}
use Rattle.cells.proofs.Runs.{length_part}
use Rattle.cells.proofs.Cuts.{bytes_part, part_part}
use Rattle.cells.proofs.Numbers.{bytes_of_number}
use Rattle.cells.proofs.Equality.{same_self, same_not}

-- runs of one length with one number are one
one_number : (xs ys : List ℕ) → Bytes xs → Bytes ys → length xs ≡ length ys → number xs ≡ number ys → xs ≡ ys
one_number xs ys b d long e = sym (bytes_of_number xs b) ∙ ap₂ bytes_of long e ∙ bytes_of_number ys d

module _ (table iv : List ℕ) (at : ℕ) (h : at + 12 ≤ length table) where
  -- an IV of another length stands nowhere
  pub other_length : (length iv ≡ 12 → ⊥) → false ≡ same (part table at 12) iv
  other_length differ = sym (same_not (part table at 12) iv (λ e. differ (sym (ap length e) ∙ length_part table at 12 h)))

  -- nor does one whose first number differs
  pub other_number : (number (part table at 8) ≡ number (part iv 0 8) → ⊥) → false ≡ same (part table at 12) iv
  other_number differ =
      sym (same_not (part table at 12) iv (λ e. differ (ap number
      (ap (λ (k : ℕ). part table k 8) (sym (add-zero at)) ∙ sym (part_part table at 12 0 8 h (omega arith)) ∙ ap (take 8) e))))

  module _ (b : Bytes table) (d : Bytes iv) (long : length iv ≡ 12) (first : number (part table at 8) ≡ number (part iv 0 8)) where
    one_part : (i j n : ℕ) → i + n ≤ length table → j + n ≤ length iv → number (part table i n) ≡ number (part iv j n)
        → part table i n ≡ part iv j n
    one_part i j n f g =
        one_number (part table i n) (part iv j n) (bytes_part table i n b) (bytes_part iv j n d) (length_part table i n f ∙ sym (length_part iv j n g))

    whole : number (part table (at + 8) 4) ≡ number (part iv 8 4) → part table at 12 ≡ iv
    whole second =
        take-add 8 4 (drop at table)
        ∙ ap₂ ◌++◌ (one_part at 0 8 (omega arith) (omega arith) first)
        (ap (take 4) (drop-drop 8 at table) ∙ one_part (at + 8) 8 4 (omega arith) (omega arith) second)
        ∙ sym (take-add 8 4 iv)
        ∙ take_all 12 iv (omega arith)

    -- where the first numbers are equal the second decide
    pub second_decides : eqb (number (part table (at + 8) 4)) (number (part iv 8 4)) ≡ same (part table at 12) iv
    second_decides = by (eqb (number (part table (at + 8) 4)) (number (part iv 8 4))) refl
      where
        by : (t : Bool) → eqb (number (part table (at + 8) 4)) (number (part iv 8 4)) ≡ t → t ≡ same (part table at 12) iv
        by true e =
            sym (ap (λ (l : List ℕ). same l iv) (whole (eqb-true _ _ e)) ∙ same_self iv)
        by false e =
            sym (same_not (part table at 12) iv
            (λ k. eqb-false _ _ e (ap number (sym (part_part table at 12 8 4 h (omega arith)) ∙ ap (λ (l : List ℕ). part l 8 4) k))))

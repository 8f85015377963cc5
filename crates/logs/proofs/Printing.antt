-- Laws of the text that is printed: rows laid one after the other, and the sum taken entry by entry.
-- Assumes nothing.
use mathlib.Core.Path.{◌≡◌, refl, ap, subst, ◌∙◌}
use mathlib.Core.List.{List, [], ◌∷◌, ◌++◌, append_assoc, append-nil}
use Prim.Native.Nat.{ℕ, zero, suc, ◌+◌, ◌-◌, ◌≤◌}
use native.Mathlib.Nat.{add-zero}
use native.Mathlib.Omega.{arith}
use lib.ListN.{length, get_or}
use Rattle.std.specs.List.{sum as total}
use Rattle.std.proofs.lemmas.List.Recursion.{is_sum_by}
use Rattle.cells.specs.Decimal.{decimal}
use Rattle.cells.specs.Text.{codes}
use Rattle.cells.specs.InnerLaid.{Laid}
use Rattle.cells.proofs.Runs.{length_spliced}
use Rattle.cells.proofs.Laid.{laid_more}
use Rattle.logs.specs.Counts.{LF, sum}
use Rattle.logs.specs.Printed.{row, status_row, rows, printed}

-- the sum of std is that of the definition
pub sum_is : (ns : List ℕ) → sum ns ≡ total ns
unfolding sum
sum_is = is_sum_by sum (λ (n : ℕ). n) refl (λ n ns. refl)

-- four texts side by side
laid_four : {out one two three left : List ℕ} {at second third fourth end : ℕ} {a b c d : List ℕ} → Laid out one at second a → Laid one two second third b
    → Laid two three third fourth c → Laid three left fourth end d → end ≤ length out → Laid out left at end (((a ++ b) ++ c) ++ d)
laid_four p q r s room = laid_more (laid_more (laid_more p q (omega (arith, r.ends, s.ends))) r (omega (arith, s.ends))) s room

pub laid_row : {out one two three left : List ℕ} {at second third fourth end : ℕ} (name : List ℕ) (n : ℕ) → Laid out one at second name
    → Laid one two second third (32 ∷ []) → Laid two three third fourth (decimal n) → Laid three left fourth end (LF ∷ []) → end ≤ length out
    → Laid out left at end (row name n)
unfolding row
laid_row {out = out} {left = left} {at = at} {end = end} name n p q r s room =
    let pieces : ((name ++ 32 ∷ []) ++ decimal n) ++ LF ∷ [] ≡ name ++ 32 ∷ decimal n ++ LF ∷ [] = simp append_assoc in
    subst (λ (text : List ℕ). Laid out left at end text) pieces (laid_four p q r s room)

-- one status more
rows_more : (counts : List ℕ) (s n : ℕ) → rows counts s (suc n) ≡ rows counts s n ++ status_row (s + n) (get_or counts (s + n) 0)
unfolding rows
rows_more counts s zero = rw (add-zero, append-nil)
rows_more counts s (suc n) =
    let same : suc s + n ≡ s + suc n = omega arith in
    rw (rows_more counts (suc s) n, append_assoc, same)

pub laid_rows : {out mid left : List ℕ} {at next end : ℕ} (counts : List ℕ) (s : ℕ) → 100 ≤ s → Laid out mid at next (rows counts 100 (s - 100))
    → Laid mid left next end (status_row s (get_or counts s 0)) → end ≤ length out → Laid out left at end (rows counts 100 (s + 1 - 100))
laid_rows counts s h p q room =
    let before : 100 + (s - 100) ≡ s = omega arith in
    let after : s + 1 - 100 ≡ suc (s - 100) = omega arith in
    rw (after, rows_more counts 100 (s - 100), before) (laid_more p q room)

-- the header, the statuses' rows, and those of the unread lines and of all
printed_pieces : (counts : List ℕ)
    → (((codes "status lines" ++ LF ∷ []) ++ rows counts 100 500) ++ row (codes "unread") (get_or counts 0 0)) ++ row (codes "total") (sum counts) ≡ printed counts
unfolding printed
printed_pieces counts = simp append_assoc

pub laid_printed : {out one two three left : List ℕ} {first second third end : ℕ} (counts : List ℕ) → Laid out one 0 first (codes "status lines" ++ LF ∷ [])
    → Laid one two first second (rows counts 100 500) → Laid two three second third (row (codes "unread") (get_or counts 0 0))
    → Laid three left third end (row (codes "total") (sum counts)) → end ≤ length out → (end ≤ length left) × Laid out left 0 end (printed counts)
laid_printed {out = out} {end = end} counts p q r s room =
    let whole = rw (printed_pieces counts) at (laid_four p q r s room) in
    (omega (arith, ap length whole.is ∙ length_spliced out (printed counts) 0 (omega (arith, whole.ends))), whole)

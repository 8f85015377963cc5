-- Byte runs of one length compared from the first byte are compared as numbers, so twelve bytes by the first eight and then the last four.
-- Assumes nothing.
use mathlib.Core.Path.{◌≡◌, refl, sym, ap, ap₂, ◌∙◌}
use mathlib.Core.List.{List, [], ◌∷◌}
use mathlib.Core.Bool.{Bool, true, false, ◌&&◌, ◌||◌}
use Prim.Native.Nat.{ℕ, ◌+◌, ◌*◌, ◌^◌, ◌≤◌, ◌<◌}
use native.Mathlib.Omega.{arith}
use borrow.Author.Tests.{ltb-true, ltb-false, eqb-true, eqb-false, lt-ltb, le-ltb}
use lib.Arith.{digits_lt}
use lib.Dec.{eqb, ltb}
use lib.ListN.{length, get_or, drop}
use lib.Seq.{take-add, drop-drop}
use Rattle.cells.specs.Runs.{part, Bytes}
use Rattle.cells.specs.Numbers.{number}
use Rattle.cells.proofs.Runs.{length_part}
use Rattle.cells.proofs.Cuts.{bytes_part}
use Rattle.cells.proofs.Numbers.{bytes_rest, number_below, number_append}
use Rattle.cells.proofs.Tests.{tested, both}
use Rattle.table.specs.declared.session.Record.{Record}
use Rattle.table.specs.Record.{size, freed}
use Rattle.table.specs.Table.{places, records}
use Rattle.table.proofs.Records.{length_records, records_at, used_at_lem, iv_at}
use Rattle.index.specs.Index.{precedes, lower}
use Rattle.index.specs.InnerEntries.{entry_at, used_at}

-- numbers of two digits: the first decide, and where they are equal the second
by_digits : (w x y m n : ℕ) → m < w → n < w → (ltb x y || (eqb x y && ltb m n)) ≡ ltb (x * w + m) (y * w + n)
by_digits w x y m n h k =
    tested (ltb x y) (λ l. rw l (lower (omega (arith, digits_lt (ltb-true x y l) h))))
    (λ l. tested (eqb x y)
    (λ e. let alike = ap (λ (q : ℕ). q * w) (eqb-true x y e) in
    rw (l, e) (tested (ltb m n) (λ s. rw s (lower (omega (arith, ltb-true m n s)))) (λ s. rw s (not_lower (omega (arith, ltb-false m n s))))))
    (λ e. let above : y < x = omega (arith, ltb-false x y l, eqb-false x y e) in
    rw (l, e) (not_lower (omega (arith, digits_lt above k)))))
  where
    lower : x * w + m < y * w + n → true ≡ ltb (x * w + m) (y * w + n)
    lower l = sym (lt-ltb (x * w + m) (y * w + n) l)

    not_lower : y * w + n ≤ x * w + m → false ≡ ltb (x * w + m) (y * w + n)
    not_lower l = sym (le-ltb (x * w + m) (y * w + n) l)

-- runs of one length are compared as their numbers
precedes_number : (xs ys : List ℕ) → Bytes xs → Bytes ys → length xs ≡ length ys → precedes xs ys ≡ ltb (number xs) (number ys)
unfolding precedes number
precedes_number [] [] b d long = refl
precedes_number [] (y ∷ ys) b d long = absurd (omega arith)
precedes_number (x ∷ xs) [] b d long = absurd (omega arith)
precedes_number (x ∷ xs) (y ∷ ys) b d long =
    let rest : length xs ≡ length ys = omega arith in
    let low = number_below xs (bytes_rest x xs b) in
    let high = rw (← rest) at (number_below ys (bytes_rest y ys d)) in
    rw (precedes_number xs ys (bytes_rest x xs b) (bytes_rest y ys d) rest, ← rest)
    (by_digits (2 ^ (8 * length xs)) x y (number xs) (number ys) low high)

pub precedes_twelve : (xs ys : List ℕ) (at bt : ℕ) → Bytes xs → Bytes ys → at + 12 ≤ length xs → bt + 12 ≤ length ys
    → precedes (part xs at 12) (part ys bt 12) ≡ ltb (number (part xs at 12)) (number (part ys bt 12))
precedes_twelve xs ys at bt b d h k =
    precedes_number (part xs at 12) (part ys bt 12) (bytes_part xs at 12 b) (bytes_part ys bt 12 d) (length_part xs at 12 h ∙ sym (length_part ys bt 12 k))

-- twelve bytes in two numbers
pub in_two : (xs : List ℕ) (at : ℕ) → at + 12 ≤ length xs → number (part xs at 12) ≡ number (part xs at 4) * 2 ^ 64 + number (part xs (at + 4) 8)
in_two xs at h =
    ap number (take-add 4 8 (drop at xs)) ∙ number_append (part xs at 4) _
    ∙ rw (drop-drop 4 at xs, length_part xs (at + 4) 8 (omega arith))

-- a place's record, in the table's bytes
module _ (bytes : List ℕ) (place : ℕ) (h : place < places bytes) where
  pub used_byte : (get_or (records bytes) place freed).used ≡ get_or bytes (size * place) 0
  used_byte = ap (λ (r : Record). r.used) (records_at bytes place h) ∙ used_at_lem bytes place h

  pub iv_bytes : (get_or (records bytes) place freed).iv ≡ part bytes (size * place + 1) 12
  iv_bytes = ap (λ (r : Record). r.iv) (records_at bytes place h) ∙ iv_at bytes place h

-- the IVs of two places are compared as numbers
pub lower_number : (bytes : List ℕ) (p q : ℕ) → Bytes bytes → p < places bytes → q < places bytes
    → lower (records bytes) p q ≡ ltb (number (part bytes (size * p + 1) 12)) (number (part bytes (size * q + 1) 12))
lower_number bytes p q b h k = ap₂ precedes (iv_bytes bytes p h) (iv_bytes bytes q k) ∙ precedes_twelve bytes bytes (size * p + 1) (size * q + 1) b b (omega arith) (omega arith)

-- the IV that an entry names, as a number
abbrev pub iv_of : List ℕ → List ℕ → ℕ → ℕ
iv_of table index k = number (part table (size * entry_at index k + 1) 12)

-- a used record stands within the table
pub used_within : (bytes : List ℕ) (place : ℕ) → used_at (records bytes) place ≡ true → place < places bytes
used_within bytes place e = omega (arith, length_records bytes, ltb-true place (length (records bytes)) (both _ _ e).0)

pub told_within : (bytes : List ℕ) (place : ℕ) {used : Bool} → used ≡ used_at (records bytes) place → used ≡ true → place < places bytes
told_within bytes place {used = used} e t = used_within bytes place (sym e ∙ t)

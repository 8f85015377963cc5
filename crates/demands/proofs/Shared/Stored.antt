-- A table's bytes, and those with one record laid over a place: that record stands there, and every other byte and record is as before.
-- Assumes nothing.
use mathlib.Core.Path.{◌≡◌, refl, sym, ap, subst, ◌∙◌}
use mathlib.Core.List.{List, [], ◌∷◌, ◌++◌}
use mathlib.Core.Bool.{true}
use mathlib.Core.Logic.{◌⊎◌, inl, inr, ⊎_elim}
use Prim.Native.Nat.{ℕ, zero, suc, ◌+◌, ◌-◌, ◌*◌, ◌≤◌, ◌<◌}
use native.Mathlib.Omega.{arith}
use lib.ListN.{length, get_or, take, drop, set, length-set, get_or-append, length-take, take-append-drop}
use lib.Seq.{get_or-take, get_or-drop, get_or-append-add}
use Rattle.cells.specs.Runs.{spliced, part}
use Rattle.cells.proofs.Runs.{length_spliced}
use Rattle.table.specs.declared.session.Record.{Record}
use Rattle.table.specs.Record.{size, record_bytes, Fits, freed}
use Rattle.std.specs.Prelude.{Some}
use Rattle.table.specs.Table.{places, record_at, records, holds, found, taken}
use Rattle.table.specs.WellFormed.{Sound, WellFormed}
use Rattle.table.proofs.Records.{length_record_bytes, length_records, records_at, records_stored}
use Rattle.table.proofs.Found.{found_at, at_found, taken_at}
use Rattle.table.proofs.Stored.{equal_or_not, Alone, stored_here, stored_other, stored_well}
use Rattle.demands.specs.Tables.{Replaced}

-- the records of a table hold what their bytes can
abbrev pub Whole : List ℕ → Type 0
Whole table = (i : ℕ) → i < places table → Fits (record_at table i)

-- and those of a well-formed one are sound
pub sound_at_lem : (table : List ℕ) → WellFormed (records table) → (place : ℕ) → place < places table → Sound (record_at table place)
sound_at_lem table w place h = subst (λ (r : Record). Sound r) (records_at table place h) (w.each place (rw length_records h))

spliced_outside : (xs ys : List ℕ) (at i : ℕ) → at + length ys ≤ length xs → (i < at) ⊎ (at + length ys ≤ i)
    → get_or (spliced xs at ys) i 0 ≡ get_or xs i 0
unfolding spliced
spliced_outside xs ys at i h (inl l) =
    let long = length-take at xs in
    get_or-append (take at xs) (ys ++ drop (length ys) (drop at xs)) 0 i (omega arith) ∙ get_or-take at xs i 0 l
spliced_outside xs ys at i h (inr g) =
    let long : length (take at xs) ≡ at = length-take at xs ∙ omega arith in
    let k = i - (at + length ys) in
    let split : i ≡ length (take at xs) + (length ys + k) = omega arith in
    let back : at + (length ys + k) ≡ i = omega arith in
    ap (λ (n : ℕ). get_or (take at xs ++ (ys ++ drop (length ys) (drop at xs))) n 0) split
    ∙ get_or-append-add (take at xs) (ys ++ drop (length ys) (drop at xs)) (length ys + k) 0
    ∙ get_or-append-add ys (drop (length ys) (drop at xs)) k 0
    ∙ get_or-drop (length ys) (drop at xs) k 0
    ∙ get_or-drop at xs (length ys + k) 0
    ∙ ap (λ (n : ℕ). get_or xs n 0) back

pub replaced : (table : List ℕ) (place : ℕ) (r : Record) → place < places table → Fits r
    → Replaced table (spliced table (size * place) (record_bytes r)) place r
replaced table place r h f =
    let after = spliced table (size * place) (record_bytes r) in
    let long = length_record_bytes r f.iv in
    let same : length after ≡ length table = length_spliced table (record_bytes r) (size * place) (omega arith) in
    let held : (j : ℕ) → j < places table → record_at after j ≡ get_or (set (records table) place r) j freed =
    λ j l. sym (records_at after j (omega arith)) ∙ ap (λ (rs : List Record). get_or rs j freed) (records_stored table place r h f) in
    let inside : place < length (records table) = rw length_records h in
    record {
      within = h;
      here = held place h ∙ stored_here (records table) place r inside;
      others = λ j l apart. held j l ∙ stored_other (records table) place r inside j apart ∙ records_at table j l;
      bytes = λ i o. spliced_outside table (record_bytes r) (size * place) i (omega arith) (rw long o);
      as_long = same;
    }

-- the table stays whole and well formed
pub replaced_whole : {table after : List ℕ} {place : ℕ} {r : Record} → Replaced table after place r → Fits r → Whole table → Whole after
replaced_whole {table} {after} {place} {r} laid f fit i l =
    ⊎_elim (λ e. subst (λ (x : Record). Fits x) (sym (ap (record_at after) e ∙ laid.here)) f)
    (λ n. let h : i < places table = omega (arith, laid.as_long) in subst (λ (x : Record). Fits x) (sym (laid.others i h n)) (fit i h))
    (equal_or_not i place)

pub laid_well : (table : List ℕ) (place : ℕ) (r : Record) → place < places table → Fits r → WellFormed (records table) → Sound r → Alone (records table) place r
    → WellFormed (records (spliced table (size * place) (record_bytes r)))
laid_well table place r h f w sound alone =
    rw (records_stored table place r h f) (stored_well (records table) place r (rw length_records h) w sound alone)

-- what is found is the new record, or was found there before
pub found_either : (rs : List Record) (i : ℕ) (r : Record) → i < length rs → (iv : List ℕ) (j : ℕ) → WellFormed rs → found (set rs i r) iv ≡ Some j
    → ((j ≡ i) × (holds iv r ≡ true)) ⊎ ((j ≡ i → ⊥) × (found rs iv ≡ Some j))
found_either rs i r h iv j w e = ⊎_elim here there (equal_or_not j i)
  where
    at : (j < length (set rs i r)) × (holds iv (get_or (set rs i r) j freed) ≡ true)
    at = found_at (set rs i r) iv j e

    here : j ≡ i → ((j ≡ i) × (holds iv r ≡ true)) ⊎ ((j ≡ i → ⊥) × (found rs iv ≡ Some j))
    here p = inl (p, sym (ap (holds iv) (ap (λ (k : ℕ). get_or (set rs i r) k freed) p ∙ stored_here rs i r h)) ∙ at.1)

    there : (j ≡ i → ⊥) → ((j ≡ i) × (holds iv r ≡ true)) ⊎ ((j ≡ i → ⊥) × (found rs iv ≡ Some j))
    there n = inr (n, at_found rs iv j w (rw length-set at at.0) (sym (ap (holds iv) (stored_other rs i r h j n)) ∙ at.1))

-- a place that a setup takes is one of the table's
pub taken_within : (table : List ℕ) (clock place : ℕ) → taken (records table) clock ≡ Some place → place < places table
taken_within table clock place e = rw length_records at (taken_at (records table) clock place e).0

-- a part laid over itself changes nothing
pub respliced : (xs : List ℕ) (at n : ℕ) → spliced xs at (part xs at n) ≡ xs
unfolding spliced
respliced xs at n =
    ap (λ (l : List ℕ). take at xs ++ l) (front n (drop at xs)) ∙ take-append-drop at xs
  where
    front : (n : ℕ) (ys : List ℕ) → take n ys ++ drop (length (take n ys)) ys ≡ ys
    front zero ys = refl
    front (suc n) [] = refl
    front (suc n) (y ∷ ys) = ap (λ (l : List ℕ). y ∷ l) (front n ys)

-- What an index holds: the entries of one that holds some places, the index of a well-formed table, and that no other fits it.
-- Assumes nothing.
use mathlib.Core.Path.{◌≡◌, refl, sym, ap, ◌∙◌}
use mathlib.Core.List.{List}
use mathlib.Core.Bool.{true}
use Prim.Native.Nat.{ℕ, ◌+◌, ◌-◌, ◌*◌, ◌≤◌, ◌<◌}
use native.Mathlib.Omega.{arith}
use borrow.Author.Tests.{lt-ltb, ltb-true, eq-eqb, eqb-true}
use lib.Dec.{ltb}
use lib.ListN.{length, get_or, replicate, get_or-replicate, get_or-append}
use lib.Seq.{get_or-append-add}
use Rattle.cells.proofs.Tests.{both}
use Rattle.table.specs.declared.session.Record.{Record}
use Rattle.table.specs.Record.{freed}
use Rattle.table.specs.Table.{records, is_used}
use Rattle.table.specs.WellFormed.{WellFormed}
use Rattle.table.proofs.Records.{length_records}
use Rattle.table.proofs.Meaning.{well_formed_is}
use Rattle.index.specs.Index.{lower, ranked, vacant, filled, coded, index_of, Indexed}
use Rattle.index.specs.Fits.{UsedAt, Stands, Fits}
use Rattle.index.specs.InnerEntries.{entry_at, used_at, Holds}
use Rattle.index.proofs.Ranked.{Sorted, Rises, stands_in, in_stands, sorted_at, at_sorted, in_ranked, ranked_in, length_ranked, used_most, ranked_rises, rising_one, rising_apart}
use Rattle.index.proofs.Coded.{length_coded, entry_coded, length_filled}

-- a used record stands at a place, as a test
pub used_told : (table : List Record) (p : ℕ) → used_at table p ≡ true → UsedAt table p
used_told table p e =
    let parts = both (ltb p (length table)) (is_used (get_or table p freed)) e in
    (ltb-true _ _ parts.0, eqb-true _ _ parts.1)

pub told_used : (table : List Record) (p : ℕ) → UsedAt table p → used_at table p ≡ true
told_used table p u = rw (lt-ltb _ _ u.0, eq-eqb _ _ u.1)

-- the entries of an index that holds some places
pub filled_front : (n : ℕ) (ps : List ℕ) (k : ℕ) → k < length ps → get_or (filled n ps) k 0 ≡ get_or ps k 0
filled_front n ps k l = get_or-append ps (replicate (n - length ps) vacant) 0 k l

pub filled_rest : (n : ℕ) (ps : List ℕ) (k : ℕ) → length ps ≤ k → k < n → get_or (filled n ps) k 0 ≡ vacant
filled_rest n ps k l m =
    let there : length ps + (k - length ps) ≡ k = omega arith in
    ap (λ (i : ℕ). get_or (filled n ps) i 0) (sym there)
    ∙ get_or-append-add ps (replicate (n - length ps) vacant) (k - length ps) 0
    ∙ get_or-replicate (n - length ps) (k - length ps) vacant 0 (omega arith)

module _ {table : List Record} {index ps : List ℕ} (h : Holds table index ps) where
  pub holds_used : (k : ℕ) → k < length ps → UsedAt table (get_or ps k 0)
  holds_used k l = h.used (get_or ps k 0) (record { at = k; within = l; is = refl })

  pub holds_long : length index ≡ 2 * length table
  holds_long = ap length h.bytes ∙ length_coded (filled (length table) ps) ∙ ap (λ (n : ℕ). 2 * n) (length_filled (length table) ps h.few)

  pub holds_front : (k : ℕ) → k < length ps → entry_at index k ≡ get_or ps k 0
  holds_front k l =
      let e = filled_front (length table) ps k l in
      let small = (holds_used k l).0 in
      ap (λ (l : List ℕ). entry_at l k) h.bytes
      ∙ entry_coded (filled (length table) ps) k (omega (arith, length_filled (length table) ps h.few, h.few)) (rw e (omega (arith, h.small)))
      ∙ e

  pub holds_rest : (k : ℕ) → length ps ≤ k → k < length table → entry_at index k ≡ vacant
  holds_rest k l m =
      let e = filled_rest (length table) ps k l m in
      ap (λ (l : List ℕ). entry_at l k) h.bytes
      ∙ entry_coded (filled (length table) ps) k (omega (arith, length_filled (length table) ps h.few)) (rw e (omega arith))
      ∙ e

pub length_index_of : (table : List Record) → length (index_of table) ≡ 2 * length table
unfolding index_of
length_index_of table =
    length_coded (filled (length table) (ranked table))
    ∙ ap (λ (n : ℕ). 2 * n) (length_filled (length table) (ranked table) (omega (arith, length_ranked table (length table), used_most table (length table))))

-- the index of a well-formed table
module _ (table : List Record) (w : WellFormed table) where
  ranked_used : (p : ℕ) → Stands p (ranked table) → UsedAt table p
  ranked_used p s = in_ranked table (length table) p (stands_in p (ranked table) s)

  ranked_rising : (i j : ℕ) → i < j → j < length (ranked table) → lower table (get_or (ranked table) i 0) (get_or (ranked table) j 0) ≡ true
  ranked_rising = sorted_at (Rises table) (ranked table) (ranked_rises table w.apart (length table) (omega arith))

  pub fits_one : Fits table (index_of table)
  unfolding index_of
  fits_one = record {
    ps = ranked table;
    used = ranked_used;
    all = λ p u. in_stands p (ranked table) (ranked_in table (length table) p u.0 u.1);
    rising = ranked_rising;
    bytes = refl;
  }

  pub formed_holds : (index : List ℕ) → length table ≤ vacant → index ≡ index_of table → Holds table index (ranked table)
  unfolding index_of
  formed_holds index small e = record {
    used = ranked_used;
    rising = ranked_rising;
    few = omega (arith, length_ranked table (length table), used_most table (length table));
    small = small;
    bytes = e;
  }

-- no other index fits
pub fits_only : (table : List Record) (index : List ℕ) → Fits table index → index ≡ index_of table
unfolding index_of
fits_only table index f =
    f.bytes ∙ ap (λ (l : List ℕ). coded (filled (length table) l)) (rising_one table f.ps (ranked table) rises
    (ranked_rises table apart (length table) (omega arith))
    (λ p i. let u = f.used p (in_stands p f.ps i) in ranked_in table (length table) p u.0 u.1)
    (λ p i. stands_in p f.ps (f.all p (in_ranked table (length table) p i))))
  where
    rises : Sorted (Rises table) f.ps
    rises = at_sorted (Rises table) f.ps f.rising

    apart : (i j : ℕ) → i < length table → j < length table → (get_or table i freed).used ≡ 1 → (get_or table j freed).used ≡ 1
        → (get_or table i freed).iv ≡ (get_or table j freed).iv → i ≡ j
    apart i j l m u v e = rising_apart table f.ps i j rises (stands_in i f.ps (f.all i (l, u))) (stands_in j f.ps (f.all j (m, v))) e

pub indexed_holds : {table index : List ℕ} → Indexed table index → Holds (records table) index (ranked (records table))
indexed_holds {table} {index} h =
    formed_holds (records table) (well_formed_is (records table) h.formed) index (omega (arith, length_records table, h.few)) h.fits

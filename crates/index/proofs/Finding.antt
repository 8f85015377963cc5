-- Finding through an index: the entries of lower IVs stand in front, and the next one names the record with an IV, if there is one.
-- Assumes nothing.
use mathlib.Core.Path.{◌≡◌, refl, sym, ap, ap₂, ◌∙◌}
use mathlib.Core.List.{List, [], ◌∷◌, ◌++◌}
use mathlib.Core.Bool.{Bool, true, false, true≢false}
use Prim.Native.Nat.{ℕ, zero, suc, ◌+◌, ◌*◌, ◌≤◌, ◌<◌}
use native.Mathlib.Omega.{arith}
use borrow.Author.Tests.{eqb-true, eqb-false, leb-true, leb-false, ltb-true, ltb-false}
use lib.Dec.{eqb, leb, ltb}
use lib.ListN.{length, get_or, take, drop}
use lib.Seq.{get_or-take, get_or-drop, drop-drop}
use Rattle.std.specs.Simd.{first_chunks}
use Rattle.std.specs.List.Sorted.{IsPartitionedBy, IsPartitionPoint}
use Rattle.std.specs.Bool.{then_some}
use Rattle.std.specs.Prelude.{None}
use Rattle.cells.proofs.Tests.{tested, both}
use Rattle.table.specs.declared.session.Record.{Record}
use Rattle.table.specs.Record.{freed}
use Rattle.table.specs.Table.{places, records, holds, found, Placed}
use Rattle.table.proofs.Records.{length_records}
use Rattle.table.proofs.Meaning.{well_formed_is}
use Rattle.table.proofs.Tests.{refuted, holds_used}
use Rattle.table.proofs.Found.{nowhere_found, at_found}
use Rattle.index.specs.Index.{precedes, among, ranked, Indexed}
use Rattle.index.specs.InnerEntries.{entry_at, used_at, low_at, Holds, Ranks}
use Rattle.index.proofs.Precedence.{precedes_self, precedes_trans}
use Rattle.index.proofs.Ranked.{in_stands, among_at, ranked_in}
use Rattle.index.proofs.Held as Held
use Rattle.index.proofs.Held.{used_told, told_used, holds_front, holds_rest, indexed_holds}

-- an index as entries of two bytes each
chunk_at : (index : List ℕ) (n k : ℕ) (d : List ℕ) → k < n → get_or (first_chunks 2 n index) k d ≡ take 2 (drop (2 * k) index)
chunk_at index zero k d l = absurd (omega arith)
chunk_at index (suc n) zero d l = refl
chunk_at index (suc n) (suc k) d l =
    chunk_at (drop 2 index) n k d (omega arith) ∙ ap (take 2) (drop-drop (2 * k) 2 index ∙ ap (λ (i : ℕ). drop i index) (omega arith))

pub chunk_entry : (index : List ℕ) (n k : ℕ) (d : List ℕ) → k < n → entry_at (get_or (first_chunks 2 n index) k d) 0 ≡ entry_at index k
chunk_entry index n k d l =
    ap (λ (e : List ℕ). entry_at e 0) (chunk_at index n k d l)
    ∙ ap₂ (λ (x y : ℕ). x * 256 + y)
    (get_or-take 2 (drop (2 * k) index) 0 0 (omega arith) ∙ get_or-drop (2 * k) index 0 0 ∙ ap (λ (i : ℕ). get_or index i 0) (omega arith))
    (get_or-take 2 (drop (2 * k) index) 1 0 (omega arith) ∙ get_or-drop (2 * k) index 1 0)

module _ {table : List Record} {index ps : List ℕ} (h : Holds table index ps) (iv : List ℕ) where
  -- an entry that names a record is one of the places
  named : (k : ℕ) → k < length table → used_at table (entry_at index k) ≡ true → k < length ps
  named k l e = tested (leb (length ps) k)
      (λ t. absurd (omega (arith, (used_told table (entry_at index k) e).0, holds_rest h k (leb-true _ _ t) l, h.small)))
      (λ t. leb-false _ _ t)

  low_before : (i j : ℕ) → i ≤ j → j < length table → low_at table iv (entry_at index j) ≡ true → low_at table iv (entry_at index i) ≡ true
  low_before i j l m e = tested (eqb i j) (λ t. ap (λ (k : ℕ). low_at table iv (entry_at index k)) (eqb-true i j t) ∙ e) (λ t. earlier (eqb-false i j t))
    where
      earlier : (i ≡ j → ⊥) → low_at table iv (entry_at index i) ≡ true
      earlier differ =
          let parts = both (used_at table (entry_at index j)) (precedes (get_or table (entry_at index j) freed).iv iv) e in
          let inside = named j m parts.0 in
          let here = holds_front h i (omega arith) in
          let there = holds_front h j inside in
          rw (here, told_used table (get_or ps i 0) (Held.holds_used h i (omega arith)))
          (precedes_trans _ _ _ (h.rising i j (omega arith) inside) (rw there at parts.1))

  -- the entries as a list, each by the place that it names
  module _ (entries : List (List ℕ)) (long : length entries ≡ length table)
      (each : (k : ℕ) (d : List ℕ) → k < length entries → entry_at (get_or entries k d) 0 ≡ entry_at index k) where
    pub partitioned : IsPartitionedBy (λ e. low_at table iv (entry_at e 0)) entries
    partitioned i j d l m e =
        ap (low_at table iv) (each i d (omega arith)) ∙ low_before i j l (omega arith) (sym (ap (low_at table iv) (each j d m)) ∙ e)

    pub ranks : (r : ℕ) → r ≤ length entries
        → IsPartitionPoint (λ e. low_at table iv (entry_at e 0) ≡ true) (λ e. low_at table iv (entry_at e 0) ≡ false) entries r → Ranks table index iv r
    ranks r within point = record {
      within = omega arith;
      below = λ k l. sym (ap (low_at table iv) (each k [] (omega arith))) ∙ point.0 k [] (omega arith) l;
      above = λ k l m. sym (ap (low_at table iv) (each k [] (omega arith))) ∙ point.1 k [] l (omega arith);
    }

module _ {table : List Record} {index ps : List ℕ} (h : Holds table index ps) {iv : List ℕ} {at : ℕ} (r : Ranks table index iv at) where
  -- before the rank the IVs are lower, behind it they are not
  low_front : (k : ℕ) → k < at → k < length ps → precedes (get_or table (get_or ps k 0) freed).iv iv ≡ true
  low_front k l m = (both (used_at table (get_or ps k 0)) _ (rw (holds_front h k m) at (r.below k l))).1

  high_rest : (k : ℕ) → at ≤ k → k < length ps → precedes (get_or table (get_or ps k 0) freed).iv iv ≡ false
  high_rest k l m =
      rw (holds_front h k m, told_used table (get_or ps k 0) (Held.holds_used h k m)) at (r.above k l (omega (arith, h.few)))

  -- the place of a record with the IV stands at its rank
  pub rank_is : (k : ℕ) → k < length ps → (get_or table (get_or ps k 0) freed).iv ≡ iv → at ≡ k
  rank_is k l e = tested (leb at k)
      (λ t. tested (eqb at k) (λ u. eqb-true at k u) (λ u. absurd (before (leb-true at k t) (eqb-false at k u))))
      (λ t. absurd (true≢false (sym (low_front k (leb-false at k t) l) ∙ ap (λ (x : List ℕ). precedes x iv) e ∙ precedes_self iv)))
    where
      before : at ≤ k → (at ≡ k → ⊥) → ⊥
      before o differ =
          true≢false (sym (ap (precedes _) (sym e) ∙ h.rising at k (omega arith) l) ∙ high_rest at (omega arith) (omega arith))

  pub rank_most : length ps < length table → at ≤ length ps
  rank_most room = tested (leb at (length ps)) (λ t. leb-true _ _ t)
      (λ t. absurd (omega (arith, named h iv (length ps) room (both _ _ (r.below (length ps) (leb-false _ _ t))).0)))

  -- a place with the IV is put there among the others
  pub rank_among : (place : ℕ) → (get_or table place freed).iv ≡ iv → length ps < length table → among table place ps ≡ take at ps ++ place ∷ drop at ps
  rank_among place e room =
      let most = rank_most room in
      among_at table place ps at most (λ k l. rw e (low_front k l (omega arith))) (λ l. rw e (high_rest at (omega arith) l))

-- two ranks of one IV are one
pub rank_determined : (table : List Record) (index iv : List ℕ) (r s : ℕ) → Ranks table index iv r → Ranks table index iv s → r ≡ s
rank_determined table index iv r s a b =
    tested (ltb r s) (λ t. absurd (clash r s a b (ltb-true r s t)))
    (λ t. tested (ltb s r) (λ u. absurd (clash s r b a (ltb-true s r u))) (λ u. let least = ltb-false r s t in let most = ltb-false s r u in omega arith))
  where
    clash : (i j : ℕ) → Ranks table index iv i → Ranks table index iv j → i < j → ⊥
    clash i j c d l = true≢false (sym (d.below i l) ∙ c.above i (omega arith) (omega (arith, d.within)))

-- an entry that names another record at the rank: none has the IV
module _ {table index : List ℕ} (indexed : Indexed table index) (iv : List ℕ) {at : ℕ} (r : Ranks (records table) index iv at) where
  pub missing : (at < length (records table) → entry_at index at < length (records table) → holds iv (get_or (records table) (entry_at index at) freed) ≡ true → ⊥)
      → found (records table) iv ≡ None
  missing other = nowhere_found (records table) iv (λ j l. refuted (holds iv (get_or (records table) j freed)) (clash j l))
    where
      h : Holds (records table) index (ranked (records table))
      h = indexed_holds indexed

      clash : (j : ℕ) → j < length (records table) → holds iv (get_or (records table) j freed) ≡ true → ⊥
      clash j l e =
          let told = holds_used iv (get_or (records table) j freed) e in
          let s = in_stands j (ranked (records table)) (ranked_in (records table) (length (records table)) j l told.0) in
          let here = rank_is h r s.at s.within (ap (λ (p : ℕ). (get_or (records table) p freed).iv) s.is ∙ told.1) in
          let is : entry_at index at ≡ j = ap (entry_at index) here ∙ holds_front h s.at s.within ∙ s.is in
          other (omega (arith, s.within, h.few)) (rw is l) (rw is e)

  -- the answer is the place that the entry at the rank names, if its record has the IV
  pub answered : (place : ℕ) (b : Bool) → place ≡ entry_at index at
      → (b ≡ true → (place < length (records table)) × (holds iv (get_or (records table) place freed) ≡ true))
      → (b ≡ false → place < length (records table) → holds iv (get_or (records table) place freed) ≡ true → ⊥)
      → Placed (found (records table) iv) (places table) (then_some b place)
  answered place true e here other =
      let there = here refl in
      record {
        is = sym (at_found (records table) iv place (well_formed_is _ indexed.formed) there.0 there.1);
        within = omega (arith, there.0, length_records table);
      }
  answered place false e here other =
      record { is = sym (missing (λ l m h. other refl (rw (← e) at m) (rw (← e) at h))); within = tt }

-- A table of which one record was freed or taken, as bytes beside the index that fits it.
-- Assumes nothing.
use mathlib.Core.Path.{◌≡◌, refl, sym, ap, ap₂, subst, ◌∙◌}
use mathlib.Core.List.{List, ◌++◌}
use Prim.Native.Nat.{ℕ, ◌*◌, ◌/◌, ◌≤◌, ◌<◌}
use native.Mathlib.Omega.{arith}
use lib.ListN.{length, get_or, set, take, drop, length-set}
use lib.Seq.{take_at, drop_at, length-take-le}
use Rattle.std.specs.Prelude.{Some, None}
use Rattle.cells.specs.Runs.{spliced}
use Rattle.cells.proofs.Runs.{length_spliced}
use Rattle.table.specs.declared.session.Record.{Record}
use Rattle.table.specs.Record as R
use Rattle.table.specs.Record.{size, freed, record_bytes}
use Rattle.table.specs.Session.{with_record}
use Rattle.table.specs.Table.{places, records, is_used, found}
use Rattle.table.specs.WellFormed.{Sound, WellFormed, well_formed}
use Rattle.table.proofs.Records.{length_record_bytes, length_records, records_stored, freed_fits}
use Rattle.table.proofs.Meaning.{well_formed_is, is_well_formed}
use Rattle.table.proofs.Found.{found_nowhere}
use Rattle.table.proofs.Stored.{stored_here, found_kept}
use Rattle.index.specs.Index.{ranked, vacant, filled, coded, index_of, Indexed}
use Rattle.index.specs.InnerEntries.{Holds, Enterable, Entered}
use Rattle.index.proofs.Ranked.{Rises, length_ranked, used_fewer, sorted_at, stands_in}
use Rattle.index.proofs.Held.{indexed_holds}
use Rattle.index.proofs.Changed.{Without}
use Rattle.index.proofs.Kept.{freed_well, freed_ranked, freed_free, taken_well, rises, used, here, own, taken_ranked}

-- a table's bytes with a record stored, and the index beside them
module _ (table : List ℕ) (place : ℕ) (within : place < places table) where
  inside : place < length (records table)
  inside = omega (arith, length_records table)

  places_kept : (r : Record) → length r.iv ≡ 12 → places (with_record table (Some place) r) ≡ places table
  places_kept r v = ap (λ (n : ℕ). n / size) (length_spliced table (record_bytes r) (size * place) (omega (arith, length_record_bytes r v)))

  -- a freed record holds zeros, and no IV is found that was not there before
  freed_here : get_or (records (with_record table (Some place) freed)) place freed ≡ freed
  freed_here = ap (λ (l : List Record). get_or l place freed) (records_stored table place freed within freed_fits) ∙ stored_here (records table) place freed inside

  freed_new : (iv : List ℕ) → found (records table) iv ≡ None → found (records (with_record table (Some place) freed)) iv ≡ None
  freed_new iv e =
      ap (λ (l : List Record). found l iv) (records_stored table place freed within freed_fits)
      ∙ found_kept (records table) place freed inside iv (sym (found_nowhere (records table) iv e place inside))
      ∙ e

  stored_indexed : (r : Record) (after : List ℕ) → R.Fits r → places table ≤ vacant → WellFormed (set (records table) place r)
      → after ≡ index_of (set (records table) place r) → Indexed (with_record table (Some place) r) after
  stored_indexed r after f few w e = record {
    few = omega (arith, places_kept r f.iv);
    formed = ap well_formed (records_stored table place r within f) ∙ is_well_formed (set (records table) place r) w;
    fits = e ∙ ap index_of (sym (records_stored table place r within f));
  }

  module _ {index : List ℕ} (h : Indexed table index) where
    formed : WellFormed (records table)
    formed = well_formed_is (records table) h.formed

    -- freed: its entry was taken out, or it had none
    pub freed_used : {after : List ℕ} → Without (records table) (ranked (records table)) after place → Indexed (with_record table (Some place) freed) after
    unfolding index_of
    freed_used {after} o =
        stored_indexed freed after freed_fits h.few (freed_well (records table) formed place inside)
        (o.bytes ∙ ap₂ (λ (n : ℕ) (ps : List ℕ). coded (filled n ps)) (sym (length-set (records table) place freed)) (freed_ranked (records table) formed place inside o.at o.within o.is))

    pub freed_unused : ((get_or (records table) place freed).used ≡ 1 → ⊥) → Indexed (with_record table (Some place) freed) index
    freed_unused n =
        let same = freed_free (records table) formed place inside n in
        stored_indexed freed index freed_fits h.few (freed_well (records table) formed place inside) (h.fits ∙ ap index_of (sym same))

    -- taken: a record that was free, with an IV that stands nowhere
    module _ (r : Record) (f : R.Fits r) (u : r.used ≡ 1) (s : Sound r) (free : get_or (records table) place freed ≡ freed) (new : found (records table) r.iv ≡ None) where
      after_holds : Holds (set (records table) place r) index (ranked (records table))
      after_holds = record {
        used = λ p i. used (records table) formed place r inside free u s new p (stands_in p (ranked (records table)) i);
        rising = sorted_at (Rises (set (records table) place r)) (ranked (records table)) (rises (records table) formed place r inside free u s new);
        few = omega (arith, held.few, length-set (records table) place r);
        small = omega (arith, held.small, length-set (records table) place r);
        bytes = held.bytes ∙ ap (λ (n : ℕ). coded (filled n (ranked (records table)))) (sym (length-set (records table) place r));
      }
        where
          held : Holds (records table) index (ranked (records table))
          held = indexed_holds h

      room : length (ranked (records table)) < length (set (records table) place r)
      room =
          omega (
            arith,
            length_ranked (records table) (length (records table)),
            length-set (records table) place r,
            used_fewer (records table) (length (records table)) place inside (ap is_used free),
          )

      taken_enterable : Enterable (records (with_record table (Some place) r)) index place
      taken_enterable = subst (λ (l : List Record). Enterable l index place) (sym (records_stored table place r within f)) (record {
        ps = ranked (records table);
        holds = after_holds;
        room = room;
        used = (omega (arith, inside, length-set (records table) place r), ap (λ (x : Record). x.used) (here (records table) formed place r inside free u s new) ∙ u);
        other = λ p i. own (records table) formed place r inside free u s new p (stands_in p (ranked (records table)) i);
      })

      taken_indexed : {after : List ℕ} → Entered (records (with_record table (Some place) r)) index after place → Indexed (with_record table (Some place) r) after
      unfolding index_of
      taken_indexed {after} e =
          stored_indexed r after f h.few (taken_well (records table) formed place r inside free u s new)
          (subst (λ (l : List Record). Entered l index after place) (records_stored table place r within f) e (ranked (records table)) after_holds room
          ∙ ap (λ (ps : List ℕ). coded (filled (length (set (records table) place r)) ps)) (taken_ranked (records table) formed place r inside free u s new))

-- a record stored over another
stored_again : (table : List ℕ) (place : ℕ) (r next : Record) → place < places table → length r.iv ≡ 12 → length next.iv ≡ 12
    → with_record (with_record table (Some place) r) (Some place) next ≡ with_record table (Some place) next
unfolding spliced
stored_again table place r next within v v' =
    let long = length_record_bytes r v in
    let front : length (take (size * place) table) ≡ size * place = length-take-le (size * place) table (omega arith) in
    ap₂ (λ (xs ys : List ℕ). xs ++ (record_bytes next ++ ys))
    (take_at (take (size * place) table) _ (size * place) front)
    (ap (λ (n : ℕ). drop n (drop (size * place) (spliced table (size * place) (record_bytes r)))) (length_record_bytes next v' ∙ sym long)
    ∙ ap (drop (length (record_bytes r))) (drop_at (take (size * place) table) _ (size * place) front)
    ∙ drop_at (record_bytes r) _ (length (record_bytes r)) refl
    ∙ ap (λ (n : ℕ). drop n (drop (size * place) table)) (long ∙ sym (length_record_bytes next v')))

-- whatever stood at a place: freed, and then taken by the record of a new session
module _ (table : List ℕ) (place : ℕ) (within : place < places table) {cleared : List ℕ} (e : cleared ≡ with_record table (Some place) freed) where
  pub inside_cleared : place < places cleared
  inside_cleared = rw e (rw (places_kept table place within freed refl) within)

  module _ (r : Record) (f : R.Fits r) (u : r.used ≡ 1) (s : Sound r) (new : found (records table) r.iv ≡ None) {index stored : List ℕ}
      (h : Indexed cleared index) (g : stored ≡ with_record cleared (Some place) r) where
    free : get_or (records cleared) place freed ≡ freed
    free = rw e (freed_here table place within)

    none : found (records cleared) r.iv ≡ None
    none = rw e (freed_new table place within r.iv new)

    pub over_enterable : Enterable (records stored) index place
    over_enterable = rw g (taken_enterable cleared place inside_cleared h r f u s free none)

    pub over_indexed : {after : List ℕ} → Entered (records stored) index after place → (stored ≡ with_record table (Some place) r) × Indexed stored after
    over_indexed entered = (
      g ∙ ap (λ (t : List ℕ). with_record t (Some place) r) e ∙ stored_again table place freed r within refl f.iv,
      rw g (taken_indexed cleared place inside_cleared h r f u s free none (rw g at entered)),
    )

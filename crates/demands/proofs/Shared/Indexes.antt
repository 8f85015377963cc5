-- What an index that fits is to the checks, and that the index that a call leaves fits the table that it leaves.
-- Assumes nothing.
use mathlib.Core.Path.{◌≡◌, refl, sym, ap, ◌∙◌}
use mathlib.Core.Bool.{true}
use mathlib.Core.List.{List}
use mathlib.Core.Logic.{◌⊎◌, inl, inr}
use Prim.Native.Nat.{ℕ, ◌*◌, ◌<◌}
use native.Mathlib.Omega.{arith}
use borrow.Author.Tests.{eq-eqb}
use lib.Dec.{eqb}
use lib.ListN.{length, get_or, set, length-set}
use Rattle.cells.specs.Runs.{same, spliced}
use Rattle.cells.proofs.Equality.{same_self}
use Rattle.hashes.specs.Hashes.{hash_mask}
use Rattle.table.specs.declared.session.Record.{Record}
use Rattle.std.specs.Prelude.{Option, Some, None}
use Rattle.table.specs.Record.{size, record_of, freed, begun}
use Rattle.table.specs.Session.{place_of, with_record, without}
use Rattle.table.specs.Table.{places, record_at, records}
use Rattle.table.specs.WellFormed.{WellFormed}
use Rattle.table.proofs.Records.{length_records, records_at, records_spliced, records_stored, freed_fits}
use Rattle.table.proofs.Found.{found_at}
use Rattle.table.proofs.Sessions.{begun_sound, begun_fits}
use Rattle.table.proofs.Stored.{equal_or_not, stored_here, stored_other, alone_new}
use Rattle.index.specs.Index.{index_of}
use Rattle.index.proofs.Held.{fits_one, fits_only, length_index_of}
use Rattle.index.proofs.Kept.{freed_well}
use Rattle.index.proofs.Alike.{fits_same}
use Rattle.gate.specs.Calls.{Setup}
use Rattle.gate.specs.State.{State, holding, indexed}
use Rattle.gate.specs.Setup.{chosen_of, expiry_of, with_session}
use Rattle.demands.specs.Effects.{Right}
use Rattle.demands.proofs.Shared.Stored.{laid_well, taken_within}
use Rattle.demands.proofs.Shared.Answers.{begun_table}
use Rattle.demands.proofs.Shared.Passed.{Takes}

-- what an index that fits is to the checks
pub right_same : (state : State) → Right state → same state.index (index_of (records state.table)) ≡ true
right_same state right = ap (same state.index) (sym (fits_only _ _ right)) ∙ same_self state.index

pub right_sized : (state : State) → Right state → eqb (length state.index) (2 * places state.table) ≡ true
right_sized state right =
    eq-eqb _ _ (ap length (fits_only _ _ right) ∙ length_index_of (records state.table) ∙ ap (λ (n : ℕ). 2 * n) (length_records state.table))

-- a record freed
pub cleared_well : (table : List ℕ) (place : ℕ) → place < places table → WellFormed (records table) → WellFormed (records (with_record table (Some place) freed))
cleared_well table place within w =
    rw (records_stored table place freed within freed_fits) (freed_well (records table) w place (omega (arith, length_records table)))

without_well : (table iv : List ℕ) → WellFormed (records table) → WellFormed (records (without table iv))
unfolding without
without_well table iv w = by (place_of table iv) refl
  where
    by : (p : Option ℕ) → place_of table iv ≡ p → WellFormed (records (with_record table p freed))
    by (Some i) e =
        let h = (found_at (records table) iv i e).0 in
        cleared_well table i (omega (arith, length_records table)) w
    by None e = w

pub without_right : (table iv : List ℕ) → WellFormed (records table) → Right (indexed (without table iv))
without_right table iv w = fits_one (records (without table iv)) (without_well table iv w)

-- a session set up
pub begun_well : (s : Setup) (state : State) → Takes s state → WellFormed (records state.table) → WellFormed (records (with_session s state.table))
begun_well s state t w =
    let new = begun s.iv (expiry_of s) (hash_mask (chosen_of s)) in
    let within = taken_within state.table s.clock t.place t.takes in
    rw (begun_table s state.table t.place t.takes)
    (laid_well state.table t.place new within (begun_fits s.iv (expiry_of s) (chosen_of s) t.long t.small) w
    (begun_sound s.iv (expiry_of s) (chosen_of s)) (alone_new (records state.table) t.place new t.unused))

pub begun_right : (s : Setup) (state : State) → Takes s state → WellFormed (records state.table) → Right (indexed (with_session s state.table))
begun_right s state t w = fits_one (records (with_session s state.table)) (begun_well s state t w)

-- a record with the same mark and IV laid over a place
pub laid_right : (table index : List ℕ) (place : ℕ) (bytes : List ℕ) → place < places table → length bytes ≡ size
    → (record_of bytes).used ≡ (record_at table place).used → (record_of bytes).iv ≡ (record_at table place).iv
    → Right (holding table index) → Right (holding (spliced table (size * place) bytes) index)
laid_right table index place bytes within long used iv right =
    rw (records_spliced table bytes place within long)
    (fits_same (records table) (set (records table) place (record_of bytes)) (sym (length-set (records table) place (record_of bytes)))
    (λ p. kept (λ (r : Record). r.used) p (sym used) (equal_or_not p place)) (λ p. kept (λ (r : Record). r.iv) p (sym iv) (equal_or_not p place)) right)
  where
    inside : place < length (records table)
    inside = omega (arith, length_records table)

    kept : {A : Type 0} (field : Record → A) (p : ℕ) → field (record_at table place) ≡ field (record_of bytes) → (p ≡ place) ⊎ (p ≡ place → ⊥)
        → field (get_or (records table) p freed) ≡ field (get_or (set (records table) place (record_of bytes)) p freed)
    kept field p e (inl here) =
        ap (λ (k : ℕ). field (get_or (records table) k freed)) here
        ∙ ap field (records_at table place within) ∙ e
        ∙ sym (ap (λ (k : ℕ). field (get_or (set (records table) place (record_of bytes)) k freed)) here ∙ ap field (stored_here (records table) place (record_of bytes) inside))
    kept field p e (inr other) = ap field (sym (stored_other (records table) place (record_of bytes) inside p other))

-- Going along the records of a table: a loop's turn and its end, and the scans for the lowest place at which a test holds.
-- Assumes nothing.
use mathlib.Core.Path.{◌≡◌, refl, sym, ap, ◌∙◌}
use mathlib.Core.List.{List, [], ◌∷◌}
use mathlib.Core.Bool.{Bool, true, false, ◌&&◌}
use Prim.Native.Nat.{ℕ, zero, suc, ◌+◌, ◌≤◌, ◌<◌}
use native.Mathlib.Numerals.{add-one}
use native.Mathlib.Omega.{arith}
use lib.ListN.{drop, drop_of_length-le}
use Rattle.std.specs.List.{list_all, range_with_len}
use Rattle.std.specs.Prelude.{Option, Some, None}
use Rattle.table.specs.declared.session.Record.{Record}
use Rattle.table.specs.Table.{places, record_at, records, first_from, or_else, Placed}
use Rattle.table.specs.WellFormed.{fitting, well_formed}
use Rattle.table.proofs.Records.{length_records, records_from}

-- an invariant of the loops over n places from `start` on: f of the records from there is f of those from i on
pub record Along {A : Type 0} (f : ℕ → List Record → A) (bytes : List ℕ) (start n i : ℕ) : Type 0 where
  pub count : n ≡ places bytes
  pub reached : i ≤ places bytes
  pub same : f start (drop start (records bytes)) ≡ f i (drop i (records bytes))

module _ {A : Type 0} {f : ℕ → List Record → A} {bytes : List ℕ} {start : ℕ} where
  -- the record at i, and those after it
  pub along_here : {n i : ℕ} → Along f bytes start n i → i < n
      → f start (drop start (records bytes)) ≡ f i (record_at bytes i ∷ drop (i + 1) (records bytes))
  along_here {n} {i} s h = s.same ∙ ap (f i) (records_from bytes i (omega (arith, s.count)))

  pub along_goes : {n i : ℕ} → Along f bytes start n i → i < n
      → f i (record_at bytes i ∷ drop (i + 1) (records bytes)) ≡ f (i + 1) (drop (i + 1) (records bytes)) → Along f bytes start n (i + 1)
  along_goes s h e = record { count = s.count; reached = omega (arith, s.count); same = along_here s h ∙ e }

  pub along_ends : {n i : ℕ} → Along f bytes start n i → n ≤ i → f start (drop start (records bytes)) ≡ f i []
  along_ends {n} {i} s h = s.same ∙ ap (f i) (drop_of_length-le (records bytes) {i = i} (omega (arith, length_records bytes, s.count)))

module _ (test : Record → Bool) {bytes : List ℕ} {start n i : ℕ} (s : Along (first_from test) bytes start n i) where
  -- the test holds at a place: that is the one
  pub scan_stops : i < n → test (record_at bytes i) ≡ true → Placed (first_from test start (drop start (records bytes))) (places bytes) (Some i)
  scan_stops h e = record { is = sym (along_here s h ∙ rw e); within = omega (arith, s.count) }

  -- it does not: the scan goes on
  pub scan_goes : i < n → test (record_at bytes i) ≡ false → Along (first_from test) bytes start n (i + 1)
  scan_goes h e = along_goes s h (rw (add-one, e))

  -- past the last place there is none
  pub scan_ends : n ≤ i → Placed (first_from test start (drop start (records bytes))) (places bytes) None
  scan_ends h = record { is = sym (along_ends s h); within = tt }

-- the first of two answers, and the second where the first is none
pub placed_or_else : {a b : Option ℕ} {n : ℕ} (o r : Option ℕ) → Placed a n o → (o ≡ None → Placed b n r) → ((place : ℕ) → o ≡ Some place → r ≡ Some place)
    → Placed (or_else a b) n r
placed_or_else (Some place) r p none there =
    rw (there place refl, ← p.is) (record { is = refl; within = p.within })
placed_or_else None r p none there = rw (← p.is) (none refl)

-- the rule of a table, record by record
pub each_fits : (bytes : List ℕ) (i n : ℕ) → i + n ≡ places bytes
    → list_all (λ k. fitting (record_at bytes k) (drop (k + 1) (records bytes))) (range_with_len i n) ≡ well_formed (drop i (records bytes))
unfolding well_formed
each_fits bytes i zero e = rw (drop_of_length-le (records bytes) {i = i} (omega (arith, length_records bytes)))
each_fits bytes i (suc n) e =
    ap (λ (b : Bool). fitting (record_at bytes i) (drop (i + 1) (records bytes)) && b) (each_fits bytes (i + 1) n (omega arith))
    ∙ sym (ap well_formed (records_from bytes i (omega arith)))

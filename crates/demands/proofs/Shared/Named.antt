-- The session that an IV names in a table: where its record stands, and the table with that record freed.
-- Assumes nothing.
use mathlib.Core.Path.{◌≡◌, refl, sym, ap, subst, ◌∙◌}
use mathlib.Core.Bool.{true≢false, false}
use mathlib.Core.List.{List}
use Prim.Native.Nat.{ℕ, ◌<◌}
use Rattle.table.specs.declared.session.Record.{Record}
use Rattle.std.specs.Prelude.{Option, Some, None}
use Rattle.table.specs.Record.{freed}
use Rattle.table.specs.Table.{places, record_at, holds, records}
use Rattle.table.specs.WellFormed.{WellFormed}
use Rattle.table.proofs.Records.{length_records, records_at, freed_fits}
use Rattle.table.proofs.Tests.{holds_used, used_holds}
use Rattle.table.proofs.Found.{found_at, at_found}
use Rattle.stages.specs.Checks.{nowhere}
use Rattle.table.specs.Session.{place_of, with_record, without}
use Rattle.demands.specs.Tables.{Replaced, SessionAt, Session}
use Rattle.demands.proofs.Shared.Stored.{replaced}

-- nowhere is no place
pub nowhere_at : (i : ℕ) → None ≡ Some i → ⊥
nowhere_at i e = true≢false (ap nowhere e)

-- what it says that a place is somewhere
pub placed : (p : Option ℕ) → nowhere p ≡ false → (i : ℕ) × (p ≡ Some i)
placed (Some i) e = (i, refl)
placed None e = absurd (true≢false e)

-- the place that is found
pub found_session : (table iv : List ℕ) (place : ℕ) → place_of table iv ≡ Some place → SessionAt table iv place
found_session table iv place e =
    let f = found_at (records table) iv place e in
    let inside : place < places table = rw length_records at f.0 in
    let held = holds_used iv (record_at table place) (ap (holds iv) (sym (records_at table place inside)) ∙ f.1) in
    record { within = inside; used = held.0; iv = held.1 }

-- a session stands wherever its record does
pub stands_so : {one other iv : List ℕ} {i j : ℕ} → record_at other j ≡ record_at one i → j < places other → SessionAt one iv i → SessionAt other iv j
stands_so e h s = record { within = h; used = ap (λ (r : Record). r.used) e ∙ s.used; iv = ap (λ (r : Record). r.iv) e ∙ s.iv }

-- in a well-formed table it is the only one
pub session_found : (table iv : List ℕ) (place : ℕ) → WellFormed (records table) → SessionAt table iv place → place_of table iv ≡ Some place
session_found table iv place w s =
    at_found (records table) iv place w (rw length_records s.within)
    (ap (holds iv) (records_at table place s.within) ∙ used_holds iv (record_at table place) s.used s.iv)

pub somewhere : (table iv : List ℕ) → nowhere (place_of table iv) ≡ false → Session table iv
somewhere table iv e =
    let p = placed (place_of table iv) e in
    record { place = p.0; is = found_session table iv p.0 p.1 }

-- its record freed
pub freed_there : (table iv : List ℕ) (place : ℕ) → WellFormed (records table) → SessionAt table iv place → Replaced table (without table iv) place freed
unfolding without
freed_there table iv place w s =
    subst (λ (p : Option ℕ). Replaced table (with_record table p freed) place freed) (sym (session_found table iv place w s))
    (replaced table place freed s.within freed_fits)

-- where there is none, nothing is freed
pub freed_nowhere : (table iv : List ℕ) → ((place : ℕ) → SessionAt table iv place → ⊥) → without table iv ≡ table
unfolding without
freed_nowhere table iv none = by (place_of table iv) refl
  where
    by : (p : Option ℕ) → place_of table iv ≡ p → with_record table p freed ≡ table
    by (Some place) q = absurd (none place (found_session table iv place q))
    by None q = refl

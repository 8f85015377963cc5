-- Laws of the lowest place at which a test holds, and of the place that is found under an IV.
-- Assumes nothing.
use mathlib.Core.Path.{◌≡◌, refl, sym, ap, ◌∙◌}
use mathlib.Core.List.{List, [], ◌∷◌}
use mathlib.Core.Logic.{◌⊎◌, inl, inr}
use mathlib.Core.Bool.{Bool, true, false, cond, or-true}
use Prim.Native.Nat.{ℕ, zero, suc, ◌+◌, ◌-◌, ◌≤◌, ◌<◌}
use native.Mathlib.Nat.{zero-add, add-zero}
use native.Mathlib.Omega.{arith}
use lib.ListN.{length, get_or, set}
use Rattle.std.specs.Prelude.{Option, Some, None}
use Rattle.table.specs.declared.session.Record.{Record}
use Rattle.table.specs.Record.{freed}
use Rattle.table.specs.Table.{first_from, is_free, holds, lapsed, found, or_else, taken}
use Rattle.table.specs.WellFormed.{some, WellFormed}
use Rattle.table.proofs.Tests.{refuted, holds_used}

-- a place where a test holds, the places before it where it does not
pub record First (test : Record → Bool) (table : List Record) (i : ℕ) : Type 0 where
  pub within : i < length table
  pub passes : test (get_or table i freed) ≡ true
  pub before : (j : ℕ) → j < i → test (get_or table j freed) ≡ false

-- no place where it holds
abbrev pub Nowhere : (Record → Bool) → List Record → Type 0
Nowhere test table = (j : ℕ) → j < length table → test (get_or table j freed) ≡ false

module _ (test : Record → Bool) where
  shifted : (r : Record) (rs : List Record) (i : ℕ) → test r ≡ false → First test rs i → First test (r ∷ rs) (suc i)
  shifted r rs i p f = record { within = omega (arith, f.within); passes = f.passes; before = earlier }
    where
      earlier : (j : ℕ) → j < suc i → test (get_or (r ∷ rs) j freed) ≡ false
      earlier zero l = p
      earlier (suc j) l = f.before j (omega arith)

  -- a scan's answer tells which
  pub scan_first : (place i : ℕ) (rs : List Record) → first_from test place rs ≡ Some i → First test rs (i - place) × (place ≤ i)
  scan_first place i [] e = let z : ◌≡◌ {A = ℕ} 0 1 = cc in absurd (omega arith)
  scan_first place i (r ∷ rs) e = by (test r) refl (scan_first (suc place) i rs) e
    where
      by : (t : Bool) → test r ≡ t → (first_from test (suc place) rs ≡ Some i → First test rs (i - suc place) × (suc place ≤ i))
          → cond t (Some place) (first_from test (suc place) rs) ≡ Some i → First test (r ∷ rs) (i - place) × (place ≤ i)
      by true p h f =
          let here : place ≡ i = cc in
          let z : i - place ≡ 0 = omega arith in
          (rw z (record { within = omega arith; passes = p; before = λ j l. absurd (omega arith) }), omega arith)
      by false p h f =
          let later = h f in
          let z : i - place ≡ suc (i - suc place) = omega (arith, later.1) in
          (rw z (shifted r rs (i - suc place) p later.0), omega (arith, later.1))

  pub first_scan : (place i : ℕ) (rs : List Record) → First test rs i → first_from test place rs ≡ Some (place + i)
  first_scan place i [] f = absurd (omega (arith, f.within))
  first_scan place zero (r ∷ rs) f = rw f.passes (ap Some (sym (add-zero place)))
  first_scan place (suc i) (r ∷ rs) f =
      rw (f.before 0 (omega arith))
      (first_scan (suc place) i rs
      (record { within = omega (arith, f.within); passes = f.passes; before = λ j l. f.before (suc j) (omega arith) })
      ∙ ap Some (omega arith))

  pub scan_none : (place : ℕ) (rs : List Record) → first_from test place rs ≡ None → Nowhere test rs
  scan_none place [] e = λ j l. absurd (omega arith)
  scan_none place (r ∷ rs) e = by (test r) refl (scan_none (suc place) rs) e
    where
      by : (t : Bool) → test r ≡ t → (first_from test (suc place) rs ≡ None → Nowhere test rs)
          → cond t (Some place) (first_from test (suc place) rs) ≡ None → Nowhere test (r ∷ rs)
      by true p h f j l = let z : ◌≡◌ {A = ℕ} 0 1 = cc in absurd (omega arith)
      by false p h f zero l = p
      by false p h f (suc j) l = h f j (omega arith)

  pub none_scan : (place : ℕ) (rs : List Record) → Nowhere test rs → first_from test place rs ≡ None
  none_scan place [] n = refl
  none_scan place (r ∷ rs) n = rw (n 0 (omega arith)) (none_scan (suc place) rs (λ j l. n (suc j) (omega arith)))

  -- some record passes, or none does
  pub some_passes : (i : ℕ) (rs : List Record) → i < length rs → test (get_or rs i freed) ≡ true → some test rs ≡ true
  some_passes i [] h e = absurd (omega arith)
  some_passes zero (r ∷ rs) h e = rw e
  some_passes (suc i) (r ∷ rs) h e = rw (some_passes i rs (omega arith) e) (or-true (test r))

  pub none_passes : (rs : List Record) → Nowhere test rs → some test rs ≡ false
  none_passes [] n = refl
  none_passes (r ∷ rs) n = rw (n 0 (omega arith)) (none_passes rs (λ j l. n (suc j) (omega arith)))

  -- a record that passes as the one before it did changes no scan
  pub scan_set : (place i : ℕ) (r : Record) (rs : List Record) → test r ≡ test (get_or rs i freed)
      → first_from test place (set rs i r) ≡ first_from test place rs
  scan_set place i r [] e = refl
  scan_set place zero r (x ∷ rs) e = rw e
  scan_set place (suc i) r (x ∷ rs) e = ap (cond (test x) (Some place)) (scan_set (suc place) i r rs e)

-- the place that is found is within the table, and its record is used and has the IV
pub found_at : (table : List Record) (iv : List ℕ) (i : ℕ) → found table iv ≡ Some i
    → (i < length table) × (holds iv (get_or table i freed) ≡ true)
unfolding found
found_at table iv i e =
    let f = (scan_first (holds iv) 0 i table e).0 in
    let z : i - 0 ≡ i = omega arith in
    (rw z at f.within, rw z at f.passes)

-- none is found: no used record has the IV
pub found_nowhere : (table : List Record) (iv : List ℕ) → found table iv ≡ None → Nowhere (holds iv) table
unfolding found
found_nowhere table iv e = scan_none (holds iv) 0 table e

pub nowhere_found : (table : List Record) (iv : List ℕ) → Nowhere (holds iv) table → found table iv ≡ None
unfolding found
nowhere_found table iv n = none_scan (holds iv) 0 table n

-- in a well-formed table a used record is found under its IV
pub at_found : (table : List Record) (iv : List ℕ) (i : ℕ) → WellFormed table → i < length table → holds iv (get_or table i freed) ≡ true
    → found table iv ≡ Some i
unfolding found
at_found table iv i w h e =
    first_scan (holds iv) 0 i table (record { within = h; passes = e; before = earlier }) ∙ ap Some (zero-add i)
  where
    earlier : (j : ℕ) → j < i → holds iv (get_or table j freed) ≡ false
    earlier j l =
        let here = holds_used iv (get_or table i freed) e in
        refuted (holds iv (get_or table j freed))
        (λ p.
        let there = holds_used iv (get_or table j freed) p in
        let q = w.apart j i (omega arith) h there.0 here.0 (there.1 ∙ sym here.1) in
        absurd (omega arith))

-- the record that a setup takes is free, or there is no free one and its expiry is at or before now
pub taken_at : (table : List Record) (clock i : ℕ) → taken table clock ≡ Some i
    → (i < length table) × ((is_free (get_or table i freed) ≡ true) ⊎ (Nowhere is_free table × (lapsed clock (get_or table i freed) ≡ true)))
unfolding taken
taken_at table clock i e = by (first_from is_free 0 table) refl e
  where
    z : i - 0 ≡ i
    z = omega arith

    by : (p : Option ℕ) → first_from is_free 0 table ≡ p → or_else p (first_from (lapsed clock) 0 table) ≡ Some i
        → (i < length table) × ((is_free (get_or table i freed) ≡ true) ⊎ (Nowhere is_free table × (lapsed clock (get_or table i freed) ≡ true)))
    by (Some j) q f =
        let first = (scan_first is_free 0 i table (q ∙ f)).0 in
        (rw z at first.within, inl (rw z at first.passes))
    by None q f =
        let first = (scan_first (lapsed clock) 0 i table f).0 in
        (rw z at first.within, inr (scan_none is_free 0 table q, rw z at first.passes))

-- The record that the thin entry is lent out of a table that calls may be lent, and out of two in which a session stands alike.
-- Assumes nothing.
use mathlib.Core.Path.{◌≡◌, refl, sym, ap, subst, ◌∙◌}
use mathlib.Core.Bool.{true, false}
use mathlib.Core.List.{List}
use Prim.Native.Nat.{ℕ, ◌*◌, ◌%◌, ◌≤◌, ◌<◌}
use native.Mathlib.Omega.{arith}
use borrow.Author.Tests.{leb-true, ltb-true, ltb-false}
use lib.Dec.{eqb, leb, ltb}
use lib.ListN.{length}
use Rattle.cells.proofs.Tests.{tested, both}
use Rattle.table.specs.declared.session.Record.{Record}
use Rattle.std.specs.Prelude.{Option, Some, None}
use Rattle.table.specs.Record.{size, Fits, freed}
use Rattle.table.specs.Table.{places, records, record_at}
use Rattle.table.specs.Session.{place_of, held_at}
use Rattle.table.specs.WellFormed.{WellFormed}
use Rattle.table.proofs.Tests.{refuted}
use Rattle.index.proofs.Held.{fits_one}
use Rattle.gate.specs.State.{State}
use Rattle.gate.specs.Sizes.{long_from, table_fits, state_fits}
use Rattle.demands.specs.Effects.{Right}
use Rattle.demands.specs.History.{taken_out}
use Rattle.demands.specs.Struck.{session_in, StandsAlike}
use Rattle.demands.proofs.Shared.Named.{nowhere_at}
use Rattle.demands.proofs.Shared.TakenOut.{one_long, one_record, one_place, one_well, own, lent}
use Rattle.demands.proofs.Shared.Indexes.{right_sized}
use Rattle.demands.proofs.Shared.Stored.{Whole}
use Rattle.demands.proofs.Struck.Kept.{Ready}

module _ (state : State) (w : WellFormed (records state.table)) (place : ℕ) where
  abbrev one : State
  one = taken_out place state

  pub one_right : Right one
  one_right = fits_one (records one.table) (one_well state w place)

  one_fits : place < places state.table → state_fits one ≡ true
  unfolding state_fits table_fits
  one_fits h = rw (right_sized one one_right, one_long state w place h) refl

  one_short : (place < places state.table → ⊥) → state_fits one ≡ false
  unfolding state_fits table_fits
  one_short h =
      refuted (state_fits one)
      (λ e.
      let sizes = both (eqb (length one.table % size) 0) (long_from size (4096 * size) one.table) (both (table_fits one.table) _ e).0 in
      let long : size ≤ length one.table = leb-true size _ (both (leb size (length one.table)) _ sizes.1).0 in
      h (one_place state w place 0 (omega (arith, long))).0)

  one_whole : Whole state.table → Whole one.table
  one_whole fit i l =
      let here = one_place state w place i l in
      subst (λ (r : Record). Fits r) (sym (ap (record_at one.table) here.1 ∙ one_record state w place here.0)) (fit place here.0)

  pub one_ready : Ready state → place < places state.table → Ready one
  one_ready ready h = record { sizes = one_fits h; whole = one_whole ready.whole; well = one_well state w place; index = one_right }

-- the record at a place of the one table and the record where that place is in the other
module _ (to : ℕ → ℕ) (iv : List ℕ) (a b : State) (wa : WellFormed (records a.table)) (wb : WellFormed (records b.table))
    (alike : StandsAlike to iv a.table b.table) (place : ℕ) where
  pub one_sizes : state_fits (taken_out place a) ≡ state_fits (taken_out (to place) b)
  one_sizes =
      tested (ltb place (places a.table))
      (λ t. let l = ltb-true place (places a.table) t in one_fits a wa place l ∙ sym (one_fits b wb (to place) ((alike.within place).0 l)))
      (λ t. let l = ltb-false place (places a.table) t in
      one_short a wa place (λ m. omega arith) ∙ sym (one_short b wb (to place) (λ m. let n = (alike.within place).1 m in omega arith)))

  pub one_session : session_in iv (taken_out place a).table ≡ session_in iv (taken_out (to place) b).table
  one_session = by (place_of (taken_out place a).table iv) refl
    where
      by : (p : Option ℕ) → place_of (taken_out place a).table iv ≡ p → held_at (taken_out place a).table p ≡ session_in iv (taken_out (to place) b).table
      by (Some j) e =
          let mine = own a wa place iv j e in
          let yours = lent b wb (to place) iv ((alike.place place).0 mine.there) in
          ap (held_at (taken_out place a).table) (sym e ∙ mine.here) ∙ mine.same_record
          ∙ ap (held_at a.table) (sym mine.there) ∙ alike.session ∙ ap (held_at b.table) yours.there
          ∙ sym yours.same_record ∙ ap (held_at (taken_out (to place) b).table) (sym yours.here)
      by None e = none (place_of (taken_out (to place) b).table iv) refl
        where
          none : (p : Option ℕ) → place_of (taken_out (to place) b).table iv ≡ p → freed ≡ held_at (taken_out (to place) b).table p
          none (Some j) f =
              let mine = lent a wa place iv ((alike.place place).1 (own b wb (to place) iv j f).there) in
              absurd (nowhere_at 0 (sym e ∙ mine.here))
          none None f = refl

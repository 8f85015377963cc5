-- What a call that changes one session's record leaves of a table: that session's record turned into another, and every other session as it was.
-- Assumes nothing.
use mathlib.Core.Path.{◌≡◌, refl, sym, ap, subst, ◌∙◌}
use mathlib.Core.Bool.{false, cond}
use mathlib.Core.List.{List}
use mathlib.Core.Logic.{◌⊎◌, inl, inr, ⊎_elim}
use Prim.Native.Nat.{ℕ, ◌<◌}
use native.Mathlib.Omega.{arith}
use borrow.Author.Tests.{eq-eqb}
use lib.ListN.{length, get_or, set}
use Rattle.table.specs.declared.session.Record.{Record}
use Rattle.std.specs.Prelude.{Option, Some, None}
use Rattle.table.specs.Record.{Fits, freed}
use Rattle.table.specs.Table.{records, record_at, is_used, holds, found}
use Rattle.table.specs.Session.{place_of, held_at, with_record}
use Rattle.table.specs.WellFormed.{Sound, WellFormed}
use Rattle.table.proofs.Records.{length_records, records_at, records_stored}
use Rattle.table.proofs.Tests.{refuted, holds_used}
use Rattle.table.proofs.Stored.{Alone, found_kept, alone_same}
use Rattle.demands.specs.Tables.{Replaced, SessionAt}
use Rattle.demands.specs.Struck.{session_in}
use Rattle.demands.proofs.Shared.Named.{found_session, session_found}
use Rattle.demands.proofs.Shared.Stored.{Whole, replaced, replaced_whole, laid_well, found_either}

-- a session is where it was, with the record that it had
pub record Undisturbed (iv before after : List ℕ) : Type 0 where
  pub long : length after ≡ length before
  pub place : place_of after iv ≡ place_of before iv
  pub session : session_in iv after ≡ session_in iv before

-- the session of one IV has its record turned into another, which is free or keeps its place, and no other session is disturbed
pub record Turns (iv : List ℕ) (turn : Record → Record) (before after : List ℕ) : Type 0 where
  pub long : length after ≡ length before
  pub well : WellFormed (records after)
  pub whole : Whole after
  pub session : session_in iv after ≡ turn (session_in iv before)
  pub place : place_of after iv ≡ cond (is_used (turn (session_in iv before))) (place_of before iv) None
  pub others : (other : List ℕ) → (other ≡ iv → ⊥) → Undisturbed other before after

-- nothing is turned
module _ (iv : List ℕ) (turn : Record → Record) (before after : List ℕ) (w : WellFormed (records before)) (fit : Whole before)
    (is : after ≡ before) (stays : turn (session_in iv before) ≡ session_in iv before) where
  place_stays : place_of before iv ≡ cond (is_used (session_in iv before)) (place_of before iv) None
  place_stays = by (place_of before iv) refl
    where
      by : (p : Option ℕ) → place_of before iv ≡ p → p ≡ cond (is_used (held_at before p)) p None
      by (Some i) e = rw (eq-eqb _ 1 (found_session before iv i e).used) refl
      by None e = refl

  pub unturned : Turns iv turn before after
  unturned = record {
    long = ap length is;
    well = rw is w;
    whole = subst (λ (t : List ℕ). Whole t) (sym is) fit;
    session = ap (session_in iv) is ∙ sym stays;
    place = ap (λ (t : List ℕ). place_of t iv) is ∙ place_stays ∙ ap (λ (r : Record). cond (is_used r) (place_of before iv) None) (sym stays);
    others = λ other apart. record { long = ap length is; place = ap (λ (t : List ℕ). place_of t other) is; session = ap (session_in other) is };
  }

-- a record that a session's may be turned into: a free one, or one with its IV
abbrev pub FreeOr : List ℕ → Record → Type 0
FreeOr iv r = (r ≡ freed) ⊎ ((r.used ≡ 1) × (r.iv ≡ iv))

-- such a record laid over the session's
module _ (iv table : List ℕ) (w : WellFormed (records table)) (fit : Whole table) (place : ℕ) (there : SessionAt table iv place)
    (r : Record) (f : Fits r) (sound : Sound r) (own : FreeOr iv r) where
  abbrev after : List ℕ
  after = with_record table (Some place) r

  laid : Replaced table after place r
  laid = replaced table place r there.within f

  inside : place < length (records table)
  inside = rw length_records there.within

  records_are : records after ≡ set (records table) place r
  records_are = records_stored table place r there.within f

  old : get_or (records table) place freed ≡ record_at table place
  old = records_at table place there.within

  alone : FreeOr iv r → Alone (records table) place r
  alone (inl e) = λ u. absurd (omega (arith, ap (λ (x : Record). x.used) e))
  alone (inr k) = alone_same (records table) place r w inside (ap (λ (x : Record). x.used) old ∙ there.used) (ap (λ (x : Record). x.iv) old ∙ there.iv ∙ sym k.1)

  well : WellFormed (records after)
  well = laid_well table place r there.within f w sound (alone own)

  -- the session keeps its place, or is gone
  stays : r.used ≡ 1 → r.iv ≡ iv → place_of after iv ≡ Some place
  stays u e =
      session_found after iv place well
      (record { within = omega (arith, laid.as_long, there.within); used = ap (λ (x : Record). x.used) laid.here ∙ u; iv = ap (λ (x : Record). x.iv) laid.here ∙ e })

  gone : r ≡ freed → place_of after iv ≡ None
  gone z = by (place_of after iv) refl
    where
      by : (p : Option ℕ) → place_of after iv ≡ p → p ≡ None
      by (Some j) e =
          ⊎_elim (λ here. absurd (omega (arith, (holds_used iv r here.1).0, ap (λ (x : Record). x.used) z)))
          (λ kept. let is : Some j ≡ Some place = sym kept.1 ∙ session_found table iv place w there in absurd (kept.0 cc))
          (found_either (records table) place r inside iv j w (rw records_are at e))
      by None e = refl

  session_there : session_in iv table ≡ record_at table place
  session_there = rw (session_found table iv place w there) refl

  placed : FreeOr iv r → place_of after iv ≡ cond (is_used r) (place_of table iv) None
  placed (inl e) = gone e ∙ rw e refl
  placed (inr k) = stays k.0 k.1 ∙ rw (eq-eqb r.used 1 k.0) (sym (session_found table iv place w there))

  session_is : FreeOr iv r → session_in iv after ≡ r
  session_is (inl e) = rw (gone e) (sym e)
  session_is (inr k) = rw (stays k.0 k.1) laid.here

  -- a record with this IV, or a free one, holds no other
  module _ (other : List ℕ) (apart : other ≡ iv → ⊥) where
    unheld : (x : Record) → FreeOr iv x → holds other x ≡ false
    unheld x k = refuted _ (λ h. let held = holds_used other x h in ⊎_elim (λ e. omega (arith, held.0, ap (λ (y : Record). y.used) e)) (λ u. apart (sym held.1 ∙ u.1)) k)

    same_place : place_of after other ≡ place_of table other
    same_place =
        ap (λ (rs : List Record). found rs other) records_are
        ∙ found_kept (records table) place r inside other
        (unheld r own ∙ sym (ap (holds other) old ∙ unheld (record_at table place) (inr (there.used, there.iv))))

    elsewhere : (p : Option ℕ) → place_of table other ≡ p → held_at after p ≡ held_at table p
    elsewhere (Some j) e =
        let s = found_session table other j e in
        laid.others j s.within (λ h. apart (sym s.iv ∙ ap (λ (k : ℕ). (record_at table k).iv) h ∙ there.iv))
    elsewhere None e = refl

    undisturbed : Undisturbed other table after
    undisturbed = record { long = laid.as_long; place = same_place; session = ap (held_at after) same_place ∙ elsewhere (place_of table other) refl }

  pub turned_into : (turn : Record → Record) → turn (record_at table place) ≡ r → Turns iv turn table after
  turned_into turn e =
      let is : turn (session_in iv table) ≡ r = ap turn session_there ∙ e in
      record {
        long = laid.as_long;
        well = well;
        whole = replaced_whole laid f fit;
        session = session_is own ∙ sym is;
        place = placed own ∙ ap (λ (x : Record). cond (is_used x) (place_of table iv) None) (sym is);
        others = undisturbed;
      }

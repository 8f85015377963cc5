-- A setup that is done, on two tables that are alike but for the window of one session: it leaves two such tables.
-- Assumes nothing.
use mathlib.Core.Path.{◌≡◌, refl, sym, ap, subst, ◌∙◌}
use mathlib.Core.Bool.{cond}
use mathlib.Core.List.{List}
use mathlib.Core.Logic.{⊎_elim}
use Prim.Native.Nat.{ℕ, ◌≤◌, ◌<◌}
use native.Mathlib.Omega.{arith}
use borrow.Author.Tests.{eqb-false, ne_eqb}
use lib.Dec.{eqb}
use Rattle.cells.proofs.Tests.{tested}
use Rattle.hashes.specs.Hashes.{hash_mask}
use Rattle.table.specs.declared.session.Record.{Record}
use Rattle.std.specs.Prelude.{Option, Some, None}
use Rattle.table.specs.Record.{begun}
use Rattle.table.specs.Table.{places, records, record_at}
use Rattle.table.specs.Session.{place_of, held_at}
use Rattle.table.specs.WellFormed.{WellFormed}
use Rattle.table.proofs.Meaning.{is_well_formed}
use Rattle.stages.specs.Checks.{first}
use Rattle.gate.specs.Calls.{Setup}
use Rattle.gate.specs.State.{State}
use Rattle.gate.specs.Sizes.{setup_fits}
use Rattle.gate.specs.Entry.{state_checks, entry_checks}
use Rattle.gate.specs.Setup.{chosen_of, expiry_of, entry_part, room_part, setup_checks, set_up}
use Rattle.demands.specs.Tables.{Replaced}
use Rattle.demands.specs.History.{setting_up}
use Rattle.demands.specs.Struck.{session_in}
use Rattle.demands.proofs.Shared.Answers.{zero_or_not, set_up_number}
use Rattle.demands.proofs.Shared.Indexes.{right_same}
use Rattle.demands.proofs.Shared.Named.{nowhere_at, found_session, stands_so, session_found}
use Rattle.demands.proofs.Untouched as Untouched
use Rattle.demands.proofs.Struck.Kept.{Ready, ready_left}
use Rattle.demands.proofs.Arrival.Alike.{LikeBut, bare, own_or_other, taken_alike}

-- where a session is when another takes a place
abbrev vacated : ℕ → Option ℕ → Option ℕ
vacated place (Some p) = cond (eqb p place) None (Some p)
vacated place None = None

-- a table with a new session's record at a place
module _ (table after : List ℕ) (w : WellFormed (records table)) (w' : WellFormed (records after)) (place : ℕ) (r : Record) (laid : Replaced table after place r) where
  -- another session was there before
  there_before : (v : List ℕ) → (v ≡ r.iv → ⊥) → (p : ℕ) → place_of after v ≡ Some p → (p ≡ place → ⊥) × (place_of table v ≡ Some p)
  there_before v apart p e =
      let s = found_session after v p e in
      let elsewhere : p ≡ place → ⊥ = λ k. apart (sym s.iv ∙ ap (λ (i : ℕ). (record_at after i).iv) k ∙ ap (λ (x : Record). x.iv) laid.here) in
      let h : p < places table = omega (arith, laid.as_long, s.within) in
      (elsewhere, session_found table v p w (stands_so (sym (laid.others p h elsewhere)) h s))

  -- and is there still, if its place was not taken
  there_still : (v : List ℕ) (p : ℕ) → place_of table v ≡ Some p → (p ≡ place → ⊥) → place_of after v ≡ Some p
  there_still v p e n =
      let s = found_session table v p e in
      session_found after v p w' (stands_so (laid.others p s.within n) (omega (arith, laid.as_long, s.within)) s)

  spared : (p : ℕ) → (p ≡ place → ⊥) → vacated place (Some p) ≡ Some p
  spared p n = rw (ne_eqb p place n)

  place_of_other : (v : List ℕ) → (v ≡ r.iv → ⊥) → place_of after v ≡ vacated place (place_of table v)
  place_of_other v apart = by (place_of after v) refl (place_of table v) refl
    where
      by : (p : Option ℕ) → place_of after v ≡ p → (p' : Option ℕ) → place_of table v ≡ p' → p ≡ vacated place p'
      by (Some p) e p' e' =
          let b = there_before v apart p e in
          sym (ap (vacated place) (sym e' ∙ b.1) ∙ spared p b.0)
      by None e (Some p) e' =
          tested (eqb p place) (λ t. rw t refl) (λ t. absurd (nowhere_at p (sym e ∙ there_still v p e' (eqb-false p place t))))
      by None e None e' = refl

  session_of_other : (v : List ℕ) → (v ≡ r.iv → ⊥) → session_in v after ≡ held_at table (vacated place (place_of table v))
  session_of_other v apart = ap (held_at after) (place_of_other v apart) ∙ held (place_of table v) refl
    where
      held : (p : Option ℕ) → place_of table v ≡ p → held_at after (vacated place p) ≡ held_at table (vacated place p)
      held (Some p) e =
          tested (eqb p place) (λ t. rw t refl) (λ t. rw t (laid.others p (found_session table v p e).within (eqb-false p place t)))
      held None e = refl

  module _ (used : r.used ≡ 1) where
    place_of_own : place_of after r.iv ≡ Some place
    place_of_own =
        session_found after r.iv place w'
        (record { within = omega (arith, laid.as_long, laid.within); used = ap (λ (x : Record). x.used) laid.here ∙ used; iv = ap (λ (x : Record). x.iv) laid.here })

    session_of_own : session_in r.iv after ≡ r
    session_of_own = ap (held_at after) place_of_own ∙ laid.here

-- two such tables, with the same record at the same place
module _ (iv a b a' b' : List ℕ) (wa : WellFormed (records a)) (wb : WellFormed (records b)) (wa' : WellFormed (records a')) (wb' : WellFormed (records b'))
    (place : ℕ) (r : Record) (used : r.used ≡ 1) (la : Replaced a a' place r) (lb : Replaced b b' place r) (apart : iv ≡ r.iv → ⊥) (l : LikeBut iv a b) where
  vacated_alike : {A : Type 0} (f : Record → A) (p : Option ℕ) → f (held_at a p) ≡ f (held_at b p) → f (held_at a (vacated place p)) ≡ f (held_at b (vacated place p))
  vacated_alike f (Some p) e = tested (eqb p place) (λ t. rw t refl) (λ t. rw t e)
  vacated_alike f None e = e

  other_alike : {A : Type 0} (f : Record → A) (v : List ℕ) → (v ≡ r.iv → ⊥) → f (session_in v a) ≡ f (session_in v b) → f (session_in v a') ≡ f (session_in v b')
  other_alike f v n e =
      ap f (session_of_other a a' wa wa' place r la v n)
      ∙ vacated_alike f (place_of a v) (e ∙ ap (λ (p : Option ℕ). f (held_at b p)) (sym (l.place v)))
      ∙ ap (λ (p : Option ℕ). f (held_at b (vacated place p))) (l.place v)
      ∙ sym (ap f (session_of_other b b' wb wb' place r lb v n))

  both_laid : LikeBut iv a' b'
  both_laid = record {
    long = la.as_long ∙ l.long ∙ sym lb.as_long;
    place = λ v.
        ⊎_elim (λ e. rw e (place_of_own a a' wa wa' place r la used ∙ sym (place_of_own b b' wb wb' place r lb used)))
        (λ n. place_of_other a a' wa wa' place r la v n ∙ ap (vacated place) (l.place v) ∙ sym (place_of_other b b' wb wb' place r lb v n))
        (own_or_other v r.iv);
    session = λ v n.
        ⊎_elim (λ e. rw e (session_of_own a a' wa wa' place r la used ∙ sym (session_of_own b b' wb wb' place r lb used)))
        (λ m. other_alike (λ (x : Record). x) v m (l.session v n))
        (own_or_other v r.iv);
    but = other_alike bare iv apart l.but;
  }

module _ (s : Setup) (iv : List ℕ) (a b : State) (ra : Ready a) (rb : Ready b) (l : LikeBut iv a.table b.table) where
  checks_alike : setup_checks s a ≡ setup_checks s b
  unfolding setup_checks entry_part room_part entry_checks state_checks setup_fits
  checks_alike =
      rw (ra.sizes, rb.sizes, is_well_formed _ ra.well, is_well_formed _ rb.well, right_same a ra.index, right_same b rb.index, l.place s.iv, taken_alike iv a.table b.table l ra.well rb.well s.clock) refl

  setup_number : (set_up s a).number ≡ (set_up s b).number
  setup_number = set_up_number s a ∙ ap first checks_alike ∙ sym (set_up_number s b)

  pub setup_alike : (iv ≡ s.iv → ⊥) → LikeBut iv (set_up s a).state.table (set_up s b).state.table
  setup_alike apart = ⊎_elim done refused (zero_or_not (set_up s a).number)
    where
      done : (set_up s a).number ≡ 0 → LikeBut iv (set_up s a).state.table (set_up s b).state.table
      done z =
          let in_a = (Untouched.setup s a).passed z in
          let in_b = (Untouched.setup s b).passed (sym setup_number ∙ z) in
          let same : Some in_b.place ≡ Some in_a.place = sym in_b.lowest ∙ sym (taken_alike iv a.table b.table l ra.well rb.well s.clock) ∙ in_a.lowest in
          let is : in_b.place ≡ in_a.place = cc in
          both_laid iv a.table b.table _ _ ra.well rb.well (ready_left a ra (setting_up s)).well (ready_left b rb (setting_up s)).well
          in_a.place (begun s.iv (expiry_of s) (hash_mask (chosen_of s))) refl in_a.session
          (subst (λ (p : ℕ). Replaced b.table (set_up s b).state.table p (begun s.iv (expiry_of s) (hash_mask (chosen_of s)))) is in_b.session) apart l

      refused : 1 ≤ (set_up s a).number → LikeBut iv (set_up s a).state.table (set_up s b).state.table
      refused o =
          rw (((Untouched.setup s a).refused o).state, ((Untouched.setup s b).refused (rw setup_number at o)).state) l

-- a session that stands after a setup of another stood before it, as it was
pub stood_before : (s : Setup) (state : State) (iv : List ℕ) → Ready state → (iv ≡ s.iv → ⊥) → (p : ℕ) → place_of (set_up s state).state.table iv ≡ Some p
    → (place_of state.table iv ≡ Some p) × (session_in iv (set_up s state).state.table ≡ session_in iv state.table)
stood_before s state iv ready apart p e = ⊎_elim done refused (zero_or_not (set_up s state).number)
  where
    done : (set_up s state).number ≡ 0 → (place_of state.table iv ≡ Some p) × (session_in iv (set_up s state).state.table ≡ session_in iv state.table)
    done z =
        let laid = ((Untouched.setup s state).passed z).session in
        let b = there_before state.table _ ready.well (ready_left state ready (setting_up s)).well _ _ laid iv apart p e in
        (b.1, ap (held_at (set_up s state).state.table) e ∙ laid.others p (found_session state.table iv p b.1).within b.0 ∙ ap (held_at state.table) (sym b.1))

    refused : 1 ≤ (set_up s state).number → (place_of state.table iv ≡ Some p) × (session_in iv (set_up s state).state.table ≡ session_in iv state.table)
    refused o = let kept = ((Untouched.setup s state).refused o).state in (rw kept at e, rw kept refl)

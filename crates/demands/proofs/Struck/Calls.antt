-- A request and an ending turn the record of the session whose IV they bear, and disturb no other.
-- Assumes nothing.
use mathlib.Core.Path.{◌≡◌, refl, sym, ap, subst, ◌∙◌}
use mathlib.Core.Bool.{Bool, true, false, cond}
use mathlib.Core.List.{List}
use mathlib.Core.Logic.{inl, inr}
use Prim.Native.Nat.{ℕ, ◌*◌, ◌<◌, ◌^◌}
use borrow.Author.Tests.{eqb-true}
use lib.Dec.{eqb}
use Rattle.cells.specs.Runs.{spliced}
use Rattle.window.specs.Window.{step_of}
use Rattle.window.specs.History.{is_accepted}
use Rattle.table.specs.declared.session.Record.{Record}
use Rattle.std.specs.Prelude.{Option, Some, None}
use Rattle.table.specs.Record.{size, freed, window_of}
use Rattle.table.specs.Table.{records, record_at}
use Rattle.table.specs.Session.{place_of, held_at, with_record, without}
use Rattle.table.specs.WellFormed.{WellFormed}
use Rattle.table.proofs.Records.{freed_fits}
use Rattle.table.proofs.Meaning.{freed_sound}
use Rattle.table.proofs.Sessions.{stepped_sound, stepped_fits}
use Rattle.stages.specs.Request.{Request}
use Rattle.stages.specs.Checks.{first, nowhere}
use Rattle.stages.specs.Parts.{iv_of, nonce_of, ordered, next_of, invalidates}
use Rattle.gate.specs.State.{State}
use Rattle.gate.specs.Judge.{request_checks, judged}
use Rattle.gate.specs.End.{end_checks, ended}
use Rattle.demands.specs.Tables.{SessionAt}
use Rattle.demands.specs.History.{taken_out, judged_at}
use Rattle.demands.proofs.Shared.Checks.{accepted_passes}
use Rattle.demands.proofs.Shared.Answers.{next, ended_number, ended_table, judged_number_lem, judged_table, found_step}
use Rattle.demands.proofs.Shared.Stored.{Whole, sound_at_lem, respliced}
use Rattle.demands.proofs.Shared.Named.{nowhere_at, placed, found_session}
use Rattle.demands.proofs.Shared.TakenOut.{caught_table, own, put_back_lem}
use Rattle.demands.proofs.Shared.Passed.{session_passed}
use Rattle.demands.proofs.Shared.Others.{passes_finds, accepted_step}
use Rattle.demands.proofs.Struck.Turned.{Turns, unturned, turned_into}

-- what a request's number does to its session's record
abbrev pub turned : Request → ℕ → Record → Record
turned q n r = cond (eqb n 0) (cond (ordered q) (next (nonce_of q) r) r) (cond (invalidates n) freed r)

-- a nonce that is taken is one that the session's window accepts
abbrev Accepts : Request → Record → Type 0
Accepts q r = (is_accepted (step_of (window_of r) (nonce_of q)).verdict ≡ true) × (nonce_of q < 2 ^ 32)

taken : (q : Request) (state : State) (place : ℕ) → first (request_checks q state) ≡ 0 → ordered q ≡ true → place_of state.table (iv_of q) ≡ Some place
    → Accepts q (record_at state.table place)
taken q state place e o at = (rw (found_step q state.table place at) at (accepted_step q state e o), (passes_finds q state (accepted_passes q state e)).small)

-- the next record, as the definitions put it
next_is : (q : Request) (table : List ℕ) (place : ℕ) → place_of table (iv_of q) ≡ Some place → next_of q table ≡ next (nonce_of q) (record_at table place)
unfolding next_of
next_is q table place at = rw (found_step q table place at, at) refl

module _ (table : List ℕ) (w : WellFormed (records table)) (fit : Whole table) where
  -- a session's record freed
  module _ (iv : List ℕ) (turn : Record → Record) (frees : (r : Record) → turn r ≡ freed) where
    freed_turns : (place : ℕ) → place_of table iv ≡ Some place → Turns iv turn table (with_record table (Some place) freed)
    freed_turns place e = turned_into iv table w fit place (found_session table iv place e) freed freed_fits freed_sound (inl refl) turn (frees _)

  -- the session of a request at its place, by what its number does and by whether nonces are ordered
  module _ (q : Request) (place : ℕ) (at : place_of table (iv_of q) ≡ Some place) where
    abbrev old : Record
    old = record_at table place

    there : SessionAt table (iv_of q) place
    there = found_session table (iv_of q) place at

    acts : (t u o : Bool)
        → (t ≡ true → o ≡ true → Accepts q old)
        → Turns (iv_of q) (λ r. cond t (cond o (next (nonce_of q) r) r) (cond u freed r)) table
        (cond t (cond o (with_record table (Some place) (next (nonce_of q) old)) table) (cond u (with_record table (Some place) freed) table))
    acts true u true accepts =
        let a = accepts refl refl in
        turned_into (iv_of q) table w fit place there (next (nonce_of q) old) (stepped_fits old (nonce_of q) (fit place there.within) a.1)
        (stepped_sound old (nonce_of q) (sound_at_lem table w place there.within) there.used a.0) (inr (there.used, there.iv)) _ refl
    acts true u false accepts = unturned (iv_of q) _ table table w fit refl refl
    acts false true o accepts = freed_turns (iv_of q) _ (λ r. refl) place at
    acts false false o accepts = unturned (iv_of q) _ table table w fit refl refl

-- where there is no session, a number changes no record
still : {A : Type 0} (t u o : Bool) (x : A) → cond t (cond o x x) (cond u x x) ≡ x
still true u true x = refl
still true u false x = refl
still false true o x = refl
still false false o x = refl

-- a request on a table
module _ (q : Request) (state : State) (w : WellFormed (records state.table)) (fit : Whole state.table) where
  abbrev n : ℕ
  n = first (request_checks q state)

  unserved : place_of state.table (iv_of q) ≡ None → turned q n freed ≡ freed
  unserved none = by (eqb n 0) refl (invalidates n)
    where
      by : (t : Bool) → eqb n 0 ≡ t → (u : Bool) → cond t (cond (ordered q) (next (nonce_of q) freed) freed) (cond u freed freed) ≡ freed
      by true z u =
          let f = passes_finds q state (accepted_passes q state (eqb-true n 0 z)) in
          absurd (nowhere_at f.place (sym none ∙ f.finds))
      by false z true = refl
      by false z false = refl

  pub judge_turns : Turns (iv_of q) (turned q (judged q state).number) state.table (judged q state).state.table
  unfolding without
  judge_turns =
      subst (λ (k : ℕ). Turns (iv_of q) (turned q k) state.table (judged q state).state.table) (sym (judged_number_lem q state))
      (subst (λ (t : List ℕ). Turns (iv_of q) (turned q n) state.table t) (sym (judged_table q state)) (by (place_of state.table (iv_of q)) refl))
    where
      by : (p : Option ℕ) → place_of state.table (iv_of q) ≡ p
          → Turns (iv_of q) (turned q n) state.table
          (cond (eqb n 0) (cond (ordered q) (with_record state.table p (next_of q state.table)) state.table) (cond (invalidates n) (with_record state.table p freed) state.table))
      by (Some place) e =
          rw (next_is q state.table place e)
          (acts state.table w fit q place e (eqb n 0) (invalidates n) (ordered q) (λ t o. taken q state place (eqb-true n 0 t) o e))
      by None e =
          unturned (iv_of q) (turned q n) state.table _ w fit (still (eqb n 0) (invalidates n) (ordered q) state.table)
          (ap (λ (p : Option ℕ). turned q n (held_at state.table p)) e ∙ unserved e ∙ ap (held_at state.table) (sym e))

-- by the thin entry, which does nothing to a session that is not the one of the record that it is lent
abbrev pub turned_at : ℕ → Request → State → ℕ → Record → Record
turned_at place q state n r = cond (nowhere (place_of (taken_out place state).table (iv_of q))) r (turned q n r)

module _ (place : ℕ) (q : Request) (state : State) (w : WellFormed (records state.table)) (fit : Whole state.table) where
  abbrev one : List ℕ
  one = (taken_out place state).table

  abbrev m : ℕ
  m = first (request_checks q (taken_out place state))

  -- put back
  put : (t u o : Bool) (stepped cleared : List ℕ) {stepped' cleared' : List ℕ}
      → spliced state.table (size * place) stepped ≡ stepped' → spliced state.table (size * place) cleared ≡ cleared'
      → spliced state.table (size * place) (cond t (cond o stepped one) (cond u cleared one)) ≡ cond t (cond o stepped' state.table) (cond u cleared' state.table)
  put true u true x y a b = a
  put true u false x y a b = respliced state.table (size * place) size
  put false true o x y a b = b
  put false false o x y a b = respliced state.table (size * place) size

  pub one_turns : Turns (iv_of q) (turned_at place q state (judged_at place q state).number) state.table (judged_at place q state).state.table
  unfolding without
  one_turns =
      subst (λ (t : List ℕ). Turns (iv_of q) (turned_at place q state (judged_at place q state).number) state.table t) (sym (caught_table (judged q (taken_out place state)).number _))
      (subst (λ (k : ℕ). Turns (iv_of q) (turned_at place q state k) state.table (spliced state.table (size * place) (judged q (taken_out place state)).state.table)) (sym (judged_number_lem q (taken_out place state)))
      (subst (λ (t : List ℕ). Turns (iv_of q) (turned_at place q state m) state.table (spliced state.table (size * place) t)) (sym (judged_table q (taken_out place state))) (by (place_of one (iv_of q)) refl)))
    where
      Put : Option ℕ → Type 0
      Put p =
          Turns (iv_of q) (λ r. cond (nowhere p) r (turned q m r)) state.table
          (spliced state.table (size * place) (cond (eqb m 0) (cond (ordered q) (with_record one p (next_of q one)) one) (cond (invalidates m) (with_record one p freed) one)))

      by : (p : Option ℕ) → place_of one (iv_of q) ≡ p → Put p
      by (Some j) e =
          let mine = own state w place (iv_of q) j e in
          subst (λ (p : Option ℕ). Put p) (sym mine.here ∙ e)
          (subst (λ (t : List ℕ). Turns (iv_of q) (turned q m) state.table t)
          (sym (put (eqb m 0) (invalidates m) (ordered q) (with_record one (Some 0) (next_of q one)) (with_record one (Some 0) freed)
          (ap (λ (r : Record). spliced state.table (size * place) (with_record one (Some 0) r)) (next_is q one 0 mine.here ∙ ap (next (nonce_of q)) mine.same_record)
          ∙ put_back_lem state w place (next (nonce_of q) (record_at state.table place)) mine.whole (fit place mine.within).iv)
          (put_back_lem state w place freed mine.whole refl)))
          (acts state.table w fit q place mine.there (eqb m 0) (invalidates m) (ordered q)
          (λ t o. subst (λ (r : Record). Accepts q r) mine.same_record (taken q (taken_out place state) 0 (eqb-true m 0 t) o mine.here))))
      by None e =
          unturned (iv_of q) _ state.table _ w fit
          (ap (spliced state.table (size * place)) (still (eqb m 0) (invalidates m) (ordered q) one) ∙ respliced state.table (size * place) size) refl

-- an ending
pub end_turns : (iv : List ℕ) (state : State) → WellFormed (records state.table) → Whole state.table
    → Turns iv (λ r. cond (eqb (ended iv state).number 0) freed r) state.table (ended iv state).state.table
unfolding without
end_turns iv state w fit =
    subst (λ (k : ℕ). Turns iv (λ r. cond (eqb k 0) freed r) state.table (ended iv state).state.table) (sym (ended_number iv state))
    (subst (λ (t : List ℕ). Turns iv (λ r. cond (eqb (first (end_checks iv state)) 0) freed r) state.table t) (sym (ended_table iv state)) (by (eqb (first (end_checks iv state)) 0) refl))
  where
    by : (t : Bool) → eqb (first (end_checks iv state)) 0 ≡ t → Turns iv (λ r. cond t freed r) state.table (cond t (without state.table iv) state.table)
    by true z =
        let p = placed (place_of state.table iv) (session_passed iv state (eqb-true _ 0 z)) in
        rw p.1 (freed_turns state.table w fit iv _ (λ r. refl) p.0 p.1)
    by false z = unturned iv _ state.table _ w fit refl refl

-- What Struck asks of tables and calls can be met: a day of two sessions whose calls come in turns, each call's number computed, with and without the
-- other's; and the two sessions on a table each.
-- Assumes nothing.
use mathlib.Core.Path.{◌≡◌, refl, sym, ap, ap₂, subst, ◌∙◌}
use mathlib.Core.Bool.{true, false}
use mathlib.Core.List.{List, [], ◌∷◌, ◌++◌}
use mathlib.Core.Logic.{◌↔◌}
use Prim.Native.Nat.{ℕ, zero, suc, ◌<◌}
use native.Mathlib.Omega.{arith}
use lib.Dec.{lit<}
use Rattle.cells.specs.Runs.{same}
use Rattle.cells.specs.Numbers.{bytes_of, number}
use Rattle.cells.proofs.Numbers.{bytes_bytes_of}
use Rattle.cells.proofs.Equality.{same_equal, same_comm}
use Rattle.cells.proofs.Tests.{tested}
use Rattle.table.specs.declared.session.Record.{Record}
use Rattle.table.specs.Record.{record_bytes, record_of, freed}
use Rattle.std.specs.Prelude.{Option, Some, None}
use Rattle.table.specs.Session.{place_of, held_at}
use Rattle.table.specs.Table.{records, found}
use Rattle.table.specs.WellFormed.{sound, fitting, well_formed}
use Rattle.table.proofs.Meaning.{well_formed_is}
use Rattle.index.specs.Index as Index
use Rattle.index.proofs.Held.{fits_one}
use Rattle.window.specs.Window.{bit, step_of}
use Rattle.gate.specs.State.{State, indexed}
use Rattle.gate.specs.Sizes.{table_fits, state_fits}
use Rattle.demands.specs.History.{Call, judging, judging_one, ending, answer, after, lent_in}
use Rattle.demands.specs.Struck.{Lendable, bears_other, unstruck, session_in, StandsAlike, here}
use Rattle.demands.proofs.Shared.Answers.{next}
use Rattle.demands.proofs.Shared.Named.{nowhere_at}
use Rattle.demands.proofs.Struck.Steps.{ours, theirs, new, both_sessions, sent, turn_about, us, them, bears_own, unserved, asks, one_decided, asks_one, ends, ended_two, at_first, we_ask, we_repeat}

-- the day, latest first: their first nonce by the thin entry, ours, their session's end, our first nonce again, their next one, and ours
abbrev pub ours_first : Call
ours_first = judging (sent ours 1)

abbrev pub ours_next : Call
ours_next = judging (sent ours 2)

abbrev pub theirs_thin : Call
theirs_thin = judging_one 1 (sent theirs 1)

abbrev pub theirs_next : Call
theirs_next = judging (sent theirs 2)

abbrev pub day : List Call
day = ours_next ∷ theirs_next ∷ ours_first ∷ ending theirs ∷ ours_first ∷ theirs_thin ∷ []

-- what is left of it without theirs
abbrev pub without_theirs : List Call
without_theirs = ours_next ∷ ours_first ∷ ours_first ∷ []

-- the numbers that calls get
unfoldable pub numbers : State → List Call → List ℕ
numbers state [] = []
numbers state (call ∷ earlier) = (answer call (after state earlier)).number ∷ numbers state earlier

-- the records of both with their first nonce
abbrev pub marked : List ℕ → Record
marked iv = next 1 (new iv)

pub record DayWitnesses : Type 0 where
  pub setups : lent_in day ≡ []
  pub whole : numbers both_sessions day ≡ 0 ∷ 12 ∷ 16 ∷ 0 ∷ 0 ∷ 0 ∷ []
  pub struck : unstruck (λ before call. bears_other ours call) day ≡ without_theirs
  pub rest : numbers both_sessions without_theirs ≡ 0 ∷ 16 ∷ 0 ∷ []
  pub session : session_in ours (after both_sessions day).table ≡ next 2 (marked ours)
  pub session_of_rest : session_in ours (after both_sessions without_theirs).table ≡ next 2 (marked ours)

struck_out : unstruck (λ before call. bears_other ours call) day ≡ without_theirs
unfolding unstruck same
struck_out = rw (bears_own us 1 (lit< tt), bears_own us 2 (lit< tt), bears_own them 1 (lit< tt), bears_own them 2 (lit< tt)) refl

pub day_witnesses : DayWitnesses
unfolding numbers after lent_in step_of bit
day_witnesses =
    let both = turn_about at_first.0 in
    let one = one_decided them 1 (lit< tt) both_sessions 1 at_first.1 (new theirs) (new ours) both refl refl in
    let after_one = asks_one them 1 (lit< tt) both_sessions 1 at_first.1 (new theirs) (new ours) both one in
    let two = we_ask _ (new ours) (marked theirs) (turn_about after_one) refl refl 1 (lit< tt) refl in
    let three = ends them refl _ (marked theirs) (marked ours) (turn_about two.1) refl in
    let after_three = ended_two them refl _ (marked theirs) (marked ours) (turn_about two.1) refl in
    let four = we_repeat _ (marked ours) freed (turn_about after_three) refl refl 1 (lit< tt) refl in
    let gone = turn_about four.1 in
    let five = unserved them 2 (lit< tt) _ gone.ready gone.session in
    let after_five = asks them 2 (lit< tt) _ freed (marked ours) 12 gone five in
    let six = we_ask _ (marked ours) freed (turn_about after_five) refl refl 2 (lit< tt) refl in
    let first = we_ask both_sessions (new ours) (new theirs) at_first.0 refl refl 1 (lit< tt) refl in
    let again = we_repeat _ (marked ours) (new theirs) first.1 refl refl 1 (lit< tt) refl in
    let last = we_ask _ (marked ours) (new theirs) again.1 refl refl 2 (lit< tt) refl in
    record {
      setups = refl;
      whole = ap₂ ◌∷◌ six.0 (ap₂ ◌∷◌ five (ap₂ ◌∷◌ four.0 (ap₂ ◌∷◌ three (ap₂ ◌∷◌ two.0 (ap₂ ◌∷◌ one refl)))));
      struck = struck_out;
      rest = ap₂ ◌∷◌ last.0 (ap₂ ◌∷◌ again.0 (ap₂ ◌∷◌ first.0 refl));
      session = six.1.session;
      session_of_rest = last.1.session;
    }

-- each maker's session on a table of its own: ours at its place, theirs at another and among more records
abbrev pub our_table : State
our_table = indexed (record_bytes (new ours) ++ record_bytes freed)

abbrev pub their_table : State
their_table = indexed (record_bytes (new theirs) ++ (record_bytes freed ++ record_bytes freed))

abbrev pub moved : ℕ → ℕ
moved zero = 1
moved (suc zero) = 0
moved (suc (suc place)) = suc (suc (suc place))

pub record TableWitnesses : Type 0 where
  pub our_lendable : Lendable our_table
  pub their_lendable : Lendable their_table
  pub ours_alike : (iv : List ℕ) → same iv ours ≡ true → StandsAlike here iv both_sessions.table our_table.table
  pub theirs_alike : (iv : List ℕ) → same iv ours ≡ false → StandsAlike moved iv both_sessions.table their_table.table

-- the place that a place is
placed : Option ℕ → ℕ
placed (Some place) = place
placed None = 0

moved_back : (p : ℕ) → moved p ≡ 0 → p ≡ 1
moved_back zero e = absurd (omega arith)
moved_back (suc zero) e = refl
moved_back (suc (suc p)) e = absurd (omega arith)

moved_within : (p : ℕ) → (p < 2) ↔ (moved p < 3)
moved_within zero = (λ h. lit< tt, λ h. lit< tt)
moved_within (suc zero) = (λ h. lit< tt, λ h. lit< tt)
moved_within (suc (suc p)) = (λ h. absurd (omega arith), λ h. absurd (omega arith))

-- of any other IV there is no session
absent : (iv : List ℕ) → same ours iv ≡ false → same theirs iv ≡ false → (place_of both_sessions.table iv ≡ None) × (place_of their_table.table iv ≡ None)
unfolding found records record_of record_bytes bytes_of number
absent iv e f = (rw (e, f) refl, rw f refl)

none_alike : (iv : List ℕ) → (place_of both_sessions.table iv ≡ None) × (place_of their_table.table iv ≡ None) → StandsAlike moved iv both_sessions.table their_table.table
unfolding record_bytes bytes_of
none_alike iv gone = record {
  session = ap (held_at both_sessions.table) gone.0 ∙ sym (ap (held_at their_table.table) gone.1);
  place = λ p. (λ z. absurd (nowhere_at p (sym gone.0 ∙ z)), λ z. absurd (nowhere_at (moved p) (sym gone.1 ∙ z)));
  within = moved_within;
}

pub table_witnesses : TableWitnesses
unfolding state_fits table_fits Index.index_of Index.ranked_to Index.among Index.precedes Index.coded well_formed fitting sound same records record_of record_bytes bytes_of number found placed
table_witnesses =
    let our_well = well_formed_is (records our_table.table) refl in
    let their_well = well_formed_is (records their_table.table) refl in
    record {
      our_lendable = record { sizes = refl; bytes = bytes_bytes_of 62 (number our_table.table); well = our_well; index = fits_one (records our_table.table) our_well };
      their_lendable = record { sizes = refl; bytes = bytes_bytes_of 93 (number their_table.table); well = their_well; index = fits_one (records their_table.table) their_well };
      ours_alike = λ iv e. subst (λ (v : List ℕ). StandsAlike here v both_sessions.table our_table.table) (sym (same_equal iv ours e)) (record {
        session = refl;
        place = λ p. (λ z. z, λ z. z);
        within = λ p. (λ h. h, λ h. h);
      });
      theirs_alike = λ iv e. tested (same iv theirs)
          (λ t. subst (λ (v : List ℕ). StandsAlike moved v both_sessions.table their_table.table) (sym (same_equal iv theirs t)) (record {
            session = refl;
            place = λ p. (λ z. ap Some (ap moved (ap placed z)), λ z. ap Some (sym (moved_back p (sym (ap placed z)))));
            within = moved_within;
          }))
          (λ t. none_alike iv (absent iv (same_comm ours iv ∙ e) (same_comm theirs iv ∙ t)));
    }

-- The thin entry over a record that is taken out of a well-formed table: a table of its own, whose session is the table's.
-- Assumes nothing.
use mathlib.Core.Path.{◌≡◌, refl, sym, ap, subst, ◌∙◌}
use mathlib.Core.Bool.{Bool, true, false, cond}
use mathlib.Core.List.{List}
use Prim.Native.Nat.{ℕ, ◌*◌, ◌<◌}
use native.Mathlib.Omega.{arith}
use lib.ListN.{length, get_or, drop, length-take, length-drop}
use lib.Seq.{take_all}
use Rattle.cells.specs.Runs.{spliced}
use Rattle.cells.proofs.Runs.{spliced_front, fronted_whole}
use Rattle.table.specs.declared.session.Record.{Record}
use Rattle.std.specs.Prelude.{Some}
use Rattle.table.specs.Record.{size, record_bytes, record_of, freed}
use Rattle.table.specs.Table.{places, records, record_at}
use Rattle.table.specs.Session.{place_of, with_record}
use Rattle.table.specs.WellFormed.{Sound, WellFormed}
use Rattle.table.proofs.Records.{length_records, length_record_bytes, records_at}
use Rattle.stages.specs.Parts.{invalidates}
use Rattle.gate.specs.State.{State}
use Rattle.gate.specs.Remake.{remade}
use Rattle.demands.specs.History.{taken_out, caught_up}
use Rattle.demands.proofs.Shared.Answers.{remade_table}
use Rattle.demands.proofs.Shared.Stored.{sound_at_lem}
use Rattle.demands.proofs.Shared.Named.{found_session, stands_so, session_found}

-- making the index anew leaves the table alone
pub caught_table : (number : ℕ) (state : State) → (caught_up number state).table ≡ state.table
caught_table number state = by (invalidates number)
  where
    by : (t : Bool) → (cond t (remade state).state state).table ≡ state.table
    by true = remade_table state
    by false = refl

module _ (state : State) (w : WellFormed (records state.table)) (place : ℕ) where
  abbrev one : List ℕ
  one = (taken_out place state).table

  -- at a place of the table it is whole, and it is the record there
  pub one_long : place < places state.table → length one ≡ size
  one_long h = omega (arith, length-take size (drop (size * place) state.table), length-drop (size * place) state.table)

  pub one_record : place < places state.table → record_at one 0 ≡ record_at state.table place
  one_record h = ap record_of (take_all size one (omega (arith, one_long h)))

  -- where there is a record in it, it is such a one, and there is no other
  pub one_place : (i : ℕ) → i < places one → (place < places state.table) × (i ≡ 0)
  one_place i h =
      let long = length-take size (drop (size * place) state.table) in
      (omega (arith, long, length-drop (size * place) state.table), omega (arith, long))

  -- a table of that record alone is well formed
  pub one_well : WellFormed (records one)
  one_well = record {
    each = λ i h. only i (rw length_records at h);
    apart = λ i j h k u v e. omega (arith, length_records one, length-take size (drop (size * place) state.table));
  }
    where
      only : (i : ℕ) → i < places one → Sound (get_or (records one) i freed)
      only i h =
          let here = one_place i h in
          subst (λ (r : Record). Sound r)
          (sym (records_at one i h ∙ ap (record_at one) here.1 ∙ one_record here.0)) (sound_at_lem state.table w place here.0)

  -- a session that is found in it is the table's own
  pub record Own (iv : List ℕ) : Type 0 where
    pub within : place < places state.table
    pub whole : length one ≡ size
    pub here : place_of one iv ≡ Some 0
    pub same_record : record_at one 0 ≡ record_at state.table place
    pub there : place_of state.table iv ≡ Some place

  owned : (iv : List ℕ) → place < places state.table → place_of one iv ≡ Some 0 → place_of state.table iv ≡ Some place → Own iv
  owned iv h e f = record { within = h; whole = one_long h; here = e; same_record = one_record h; there = f }

  pub own : (iv : List ℕ) (j : ℕ) → place_of one iv ≡ Some j → Own iv
  own iv j e =
      let within = one_place j (found_session one iv j e).within in
      let here : place_of one iv ≡ Some 0 = e ∙ ap Some within.1 in
      owned iv within.0 here (session_found state.table iv place w (stands_so (sym (one_record within.0)) within.0 (found_session one iv 0 here)))

  -- and a session of the table is found in its record
  pub lent : (iv : List ℕ) → place_of state.table iv ≡ Some place → Own iv
  lent iv e =
      let s = found_session state.table iv place e in
      owned iv s.within (session_found one iv 0 one_well (stands_so (one_record s.within) (omega (arith, one_long s.within)) s)) e

  -- another record laid over it, put back, is that record laid over its place
  pub put_back_lem : (r : Record) → length one ≡ size → length r.iv ≡ 12
      → spliced state.table (size * place) (with_record one (Some 0) r) ≡ with_record state.table (Some place) r
  put_back_lem r whole long =
      ap (spliced state.table (size * place)) (spliced_front one (record_bytes r) ∙ fronted_whole (record_bytes r) one (length_record_bytes r long ∙ sym whole))

-- Document 02, K7: "For every well-formed table, index that fits it and IV, lookup through the index gives what a scan gives, and each call
-- leaves the index right for the table it leaves." The first is `looked_up`, the second `left_right`. An index that fits is one and only one
-- (`one_fits`, `only_one_fits`), gate_index writes it (`made`), and whether a call answers 3 does not depend on it (`three_alone`).
-- That refusals other than 10 and 13 touch nothing, the index included, is Untouched's `untouched_else`; histories are History's.
-- Assumes nothing.
pub mod Calls
use mathlib.Core.Path.{◌≡◌, refl, sym, ap, ap₂, ◌∙◌}
use mathlib.Core.List.{List, [], ◌∷◌, ◌++◌}
use mathlib.Core.Logic.{◌⊎◌, inl, inr, ⊎_elim}
use mathlib.Core.Bool.{Bool, true, false, true≢false, cond, not}
use Prim.Native.Nat.{ℕ, zero, suc, ◌≤◌, ◌<◌}
use native.Mathlib.Omega.{arith}
use borrow.Author.Tests.{ltb-true, ltb-false}
use lib.Dec.{ltb}
use lib.ListN.{length, get_or, get_or-eq_default}
use Rattle.cells.specs.Runs.{same, Bytes}
use Rattle.cells.specs.Numbers.{bytes_of}
use Rattle.cells.proofs.Numbers.{number_of}
use Rattle.cells.proofs.Tests.{tested}
use Rattle.table.specs.declared.session.Record.{Record}
use Rattle.std.specs.Prelude.{Option, Some, None}
use Rattle.table.specs.Record.{freed}
use Rattle.table.specs.Session.{place_of}
use Rattle.table.specs.Table.{records, holds, found}
use Rattle.table.specs.WellFormed.{WellFormed, well_formed}
use Rattle.table.proofs.Tests.{holds_used}
use Rattle.table.proofs.Sessions.{record_at_fits}
use Rattle.table.proofs.Found.{found_at, found_nowhere}
use Rattle.index.specs.Index.{ranked, vacant, filled, coded, index_of}
use Rattle.index.specs.Fits.{Stands, Fits}
use Rattle.index.specs.InnerEntries.{Holds}
use Rattle.index.proofs.Coded.{length_filled}
use Rattle.index.proofs.Ranked.{in_stands, ranked_in}
use Rattle.index.proofs.Held.{fits_one, fits_only, filled_front, filled_rest, formed_holds}
use Rattle.gate.specs.State.{State, holding}
use Rattle.gate.specs.Sizes.{state_fits, setup_fits, request_fits, end_fits}
use Rattle.gate.specs.Remake.{remake_checks, remade}
use Rattle.orders.specs.Orders.{Orders, orders_good}
use Rattle.stages.specs.Checks.{Check, first, nowhere}
use Rattle.stages.specs.Parts.{reading_part, covering_part, token_part, signature_part, vouching_part, session_part, nonce_part, admitting_part}
use Rattle.stages.proofs.Checks.{lacks, first_lacks}
use Rattle.gate.specs.Entry.{state_checks, entry_checks}
use Rattle.gate.specs.Setup as S
use Rattle.gate.specs.Setup.{offer_part, lasting_part, room_part, setup_checks}
use Rattle.gate.specs.Judge.{entry_part, request_checks}
use Rattle.gate.specs.End.{end_checks}
use Rattle.demands.specs.Effects.{Right}
use Rattle.demands.specs.History.{Call, setting_up, judging, judging_one, ending, making_index, answer}
use Rattle.demands.specs.Lookup.{entries, named, through}
use Rattle.demands.proofs.Shared.Answers.{set_up_number, judged_number_lem, ended_number, remade_number}
use Rattle.demands.proofs.Untouched.Indexes.{made_all}
use Rattle.demands.proofs.Index.Calls.{call_right}

-- exactly one index fits a well-formed table
pub one_fits : (table : List Record) → WellFormed table → Fits table (index_of table)
one_fits table w = fits_one table w

pub only_one_fits : (table : List Record) (index : List ℕ) → Fits table index → index ≡ index_of table
only_one_fits table index f = fits_only table index f

-- a lookup through the entries finds the record that one of them names
module _ (table : List Record) (iv : List ℕ) where
  named_there : (es : List ℕ) (i : ℕ) → holds iv (get_or table i freed) ≡ true
      → ((k : ℕ) → k < length es → holds iv (get_or table (get_or es k 0) freed) ≡ true → get_or es k 0 ≡ i) → Stands i es → named table iv es ≡ Some i
  named_there [] i e one s = absurd (omega (arith, s.within))
  named_there (x ∷ es) i e one s =
      tested (holds iv (get_or table x freed)) (λ t. rw t (ap Some (one 0 (omega arith) t)))
      (λ t. rw t (named_there es i e (λ k m. one (suc k) (omega arith)) (behind s.at s.within s.is t)))
    where
      behind : (at : ℕ) → at < length (x ∷ es) → get_or (x ∷ es) at 0 ≡ i → holds iv (get_or table x freed) ≡ false → Stands i es
      behind zero m f t = absurd (true≢false (sym e ∙ ap (λ (k : ℕ). holds iv (get_or table k freed)) (sym f) ∙ t))
      behind (suc at) m f t = record { at = at; within = omega arith; is = f }

  named_nowhere : (es : List ℕ) → ((k : ℕ) → k < length es → holds iv (get_or table (get_or es k 0) freed) ≡ false) → named table iv es ≡ None
  named_nowhere [] none = refl
  named_nowhere (x ∷ es) none = rw (none 0 (omega arith)) (named_nowhere es (λ k l. none (suc k) (omega arith)))

-- the entries of an index are what was coded
entries_coded : (es : List ℕ) → ((k : ℕ) → k < length es → get_or es k 0 < 65536) → entries (length es) (coded es) ≡ es
unfolding coded bytes_of
entries_coded [] small = refl
entries_coded (e ∷ es) small =
    ap₂ ◌∷◌ (number_of 2 e (small 0 (omega arith))) (entries_coded es (λ k l. small (suc k) (omega arith)))

-- THE THEOREM: through an index that fits, a lookup gives what a scan gives
pub looked_up : (table : List Record) (index iv : List ℕ) → length table ≤ 4096 → WellFormed table → Fits table index → through table index iv ≡ found table iv
looked_up table index iv few w f = ap (named table iv) those ∙ by (found table iv) refl
  where
    ps : List ℕ
    ps = ranked table

    es : List ℕ
    es = filled (length table) ps

    h : Holds table index ps
    h = formed_holds table w index (omega arith) (fits_only table index f)

    long : length es ≡ length table
    long = length_filled (length table) ps h.few

    -- an entry is the place of a record, or vacant
    entry : (k : ℕ) → k < length es → (get_or es k 0 < length table) ⊎ (get_or es k 0 ≡ vacant)
    entry k l = tested (ltb k (length ps))
        (λ t. let m = ltb-true _ _ t in inl (rw (filled_front (length table) ps k m) (h.used (get_or ps k 0) (record { at = k; within = m; is = refl })).0))
        (λ t. inr (filled_rest (length table) ps k (ltb-false _ _ t) (omega (arith, long))))

    small : (k : ℕ) → k < length es → get_or es k 0 < 65536
    small k l = ⊎_elim (λ m. omega arith) (λ e. omega arith) (entry k l)

    those : entries (length table) index ≡ es
    those = ap (λ (n : ℕ). entries n index) (sym long) ∙ ap (entries (length es)) h.bytes ∙ entries_coded es small

    -- a vacant entry names no record
    beyond : holds iv (get_or table vacant freed) ≡ false
    beyond = ap (holds iv) (get_or-eq_default table freed {n = vacant} (omega arith))

    by : (p : Option ℕ) → found table iv ≡ p → named table iv es ≡ p
    by (Some i) e =
        let there = found_at table iv i e in
        let used = holds_used iv (get_or table i freed) there.1 in
        let s = in_stands i ps (ranked_in table (length table) i there.0 used.0) in
        named_there table iv es i there.1
        (λ k l t. ⊎_elim
        (λ m. let told = holds_used iv (get_or table (get_or es k 0) freed) t in w.apart (get_or es k 0) i m there.0 told.0 used.0 (told.1 ∙ sym used.1))
        (λ v. absurd (true≢false (sym t ∙ ap (λ (x : ℕ). holds iv (get_or table x freed)) v ∙ beyond))) (entry k l))
        (record { at = s.at; within = omega (arith, s.within, h.few, long); is = filled_front (length table) ps s.at s.within ∙ s.is })
    by None e =
        named_nowhere table iv es (λ k l. ⊎_elim (λ m. found_nowhere table iv e (get_or es k 0) m) (λ v. ap (λ (x : ℕ). holds iv (get_or table x freed)) v ∙ beyond) (entry k l))

-- gate_index answers 0 where the sizes fit and the table is well formed, and writes the index that fits
pub made : (state : State) → state_fits state ≡ true → WellFormed (records state.table) → ((remade state).number ≡ 0) × Right (remade state).state
made = made_all

-- THE THEOREM: each call leaves an index that fits the table that it leaves
pub left_right : (state : State) (call : Call) → state_fits state ≡ true → Bytes state.table → WellFormed (records state.table) → Right state
    → Right (answer call state).state
left_right state call size b w right = call_right state size (λ i l. record_at_fits state.table i l b) w right call

-- what 3 says of the checks that calls begin with
three_says : (fits : Bool) (o : Orders) (state : State) (later : List Check) → lacks 3 later ≡ true → first (entry_checks fits o state ++ later) ≡ 3
    → (fits ≡ true) × (orders_good o ≡ true) × (well_formed (records state.table) ≡ false)
unfolding entry_checks state_checks
three_says fits o state later none e = by fits (orders_good o) (well_formed (records state.table)) (same state.index (index_of (records state.table))) e
  where
    by : (a b c d : Bool) → cond (not a) 1 (cond (not b) 2 (cond (not c) 3 (cond (not d) 22 (first later)))) ≡ 3 → (a ≡ true) × (b ≡ true) × (c ≡ false)
    by true true true true z = absurd (first_lacks 3 later (λ o. omega arith) none z)
    by true true true false z = absurd (omega arith)
    by true true false d z = (refl, refl, refl)
    by true false c d z = absurd (omega arith)
    by false b c d z = absurd (omega arith)

-- and of an ending, and of the making of an index
end_three_says : (iv : List ℕ) (state : State) → first (end_checks iv state) ≡ 3 → (end_fits iv state ≡ true) × (well_formed (records state.table) ≡ false)
unfolding end_checks state_checks
end_three_says iv state e = by (end_fits iv state) (well_formed (records state.table)) (same state.index (index_of (records state.table))) (nowhere (place_of state.table iv)) e
  where
    by : (a b c d : Bool) → ◌≡◌ {A = ℕ} (cond (not a) 1 (cond (not b) 3 (cond (not c) 22 (cond d 12 0)))) 3 → (a ≡ true) × (b ≡ false)
    by true false c d z = (refl, refl)
    by true true true true z = absurd (omega arith)
    by true true true false z = absurd (omega arith)
    by true true false d z = absurd (omega arith)
    by false b c d z = absurd (omega arith)

remake_three_says : (state : State) → first (remake_checks state) ≡ 3 → (state_fits state ≡ true) × (well_formed (records state.table) ≡ false)
unfolding remake_checks
remake_three_says state e = by (state_fits state) (well_formed (records state.table)) e
  where
    by : (a b : Bool) → ◌≡◌ {A = ℕ} (cond (not a) 1 (cond (not b) 3 0)) 3 → (a ≡ true) × (b ≡ false)
    by true false z = (refl, refl)
    by true true z = absurd (omega arith)
    by false b z = absurd (omega arith)

-- whether 3 is answered does not depend on what the index holds
module _ (table : List ℕ) (i j : List ℕ) (long : length i ≡ length j) where
  sizes_same : state_fits (holding table i) ≡ state_fits (holding table j)
  unfolding state_fits
  sizes_same = rw long

  pub three_alone : (call : Call) → (answer call (holding table i)).number ≡ 3 → (answer call (holding table j)).number ≡ 3
  unfolding setup_checks S.entry_part offer_part lasting_part room_part request_checks entry_part reading_part covering_part token_part signature_part session_part nonce_part end_checks remake_checks entry_checks state_checks setup_fits request_fits end_fits
  three_alone (setting_up s) e =
      let told = three_says (setup_fits s (holding table i)) s.orders (holding table i) (offer_part s ++ room_part s table) refl (sym (set_up_number s (holding table i)) ∙ e) in
      set_up_number s (holding table j) ∙ rw (rw sizes_same at told.0, told.1, told.2)
  three_alone (judging q) e =
      let told = three_says (request_fits q (holding table i)) q.orders (holding table i) (reading_part q ++ (vouching_part q ++ admitting_part q table)) refl (sym (judged_number_lem q (holding table i)) ∙ e) in
      judged_number_lem q (holding table j) ∙ rw (rw sizes_same at told.0, told.1, told.2)
  three_alone (judging_one place q) e = e
  three_alone (ending iv) e =
      let told = end_three_says iv (holding table i) (sym (ended_number iv (holding table i)) ∙ e) in
      ended_number iv (holding table j) ∙ rw (rw sizes_same at told.0, told.1)
  three_alone making_index e =
      let told = remake_three_says (holding table i) (sym (remade_number (holding table i)) ∙ e) in
      remade_number (holding table j) ∙ rw (rw sizes_same at told.0, told.1)

-- Two tables in which a session stands alike: a call that bears its IV tells the same on both, and leaves it standing alike.
-- Assumes nothing.
use mathlib.Core.Path.{◌≡◌, refl, sym, ap, ap₂, subst, ◌∙◌}
use mathlib.Core.Bool.{Bool, true, false, false≢true, cond, not}
use mathlib.Core.List.{List, [], ◌++◌}
use mathlib.Core.Logic.{◌↔◌}
use mathlib.Core.Option.{none, some}
use Prim.Native.Nat.{ℕ}
use borrow.Author.Tests.{eqb-true, eq-eqb}
use lib.Dec.{eqb}
use Rattle.cells.specs.Runs.{same}
use Rattle.cells.proofs.Equality.{same_equal}
use Rattle.hashes.specs.declared.Hash.{Hash}
use Rattle.reply.specs.Replies.{invalidation}
use Rattle.table.specs.declared.session.Record.{Record}
use Rattle.std.specs.Prelude.{Option, Some, None}
use Rattle.table.specs.Record.{freed}
use Rattle.table.specs.Table.{records, record_at, is_used}
use Rattle.table.specs.Session.{place_of, held_at, without}
use Rattle.table.specs.WellFormed.{WellFormed}
use Rattle.table.proofs.Meaning.{is_well_formed}
use Rattle.stages.specs.Request.{Request}
use Rattle.stages.specs.Checks.{Check, first, nowhere}
use Rattle.stages.specs.Parts.{iv_of, token_of, hash_of, invalidates, stepped, keeps_hash, reading_part, vouching_part, session_part, nonce_part, admitting_part}
use Rattle.gate.specs.State.{State, indexed, untouched, replied}
use Rattle.gate.specs.Sizes.{state_fits, request_fits, end_fits}
use Rattle.gate.specs.Entry.{state_checks, entry_checks}
use Rattle.gate.specs.Judge.{entry_part, request_checks, answered, judged}
use Rattle.gate.specs.End.{end_checks, ended}
use Rattle.demands.specs.Effects.{Right}
use Rattle.demands.specs.History.{Call, setting_up, judging, judging_one, ending, making_index, taken_out, judged_at, answer}
use Rattle.demands.specs.Struck.{legible, passes, bears, Told, told, session_in, StandsAlike, elsewhere}
use Rattle.demands.proofs.Shared.Named.{nowhere_at, found_session}
use Rattle.demands.proofs.Shared.Indexes.{right_same}
use Rattle.demands.proofs.Shared.TakenOut.{one_well}
use Rattle.demands.proofs.Struck.Turned.{Turns}
use Rattle.demands.proofs.Struck.Kept.{Ready, NoSetup}
use Rattle.demands.proofs.Struck.One.{one_right, one_sizes, one_session}
use Rattle.demands.proofs.Struck.Calls.{turned, turned_at, judge_turns, one_turns, end_turns}

-- whether there is a session stands in its record
pub unused : (iv table : List ℕ) → nowhere (place_of table iv) ≡ not (is_used (session_in iv table))
unused iv table = by (place_of table iv) refl
  where
    by : (p : Option ℕ) → place_of table iv ≡ p → nowhere p ≡ not (is_used (held_at table p))
    by (Some i) e = rw (eq-eqb (record_at table i).used 1 (found_session table iv i e).used) refl
    by None e = refl

alike_nowhere : (iv one other : List ℕ) → session_in iv one ≡ session_in iv other → nowhere (place_of one iv) ≡ nowhere (place_of other iv)
alike_nowhere iv one other e = unused iv one ∙ ap (λ (r : Record). not (is_used r)) e ∙ sym (unused iv other)

-- what is told does not depend on the state that is left
told_whatever : (n : ℕ) (id key : List ℕ) (hash : Hash) (reply : List ℕ) (s t : State) → told (answered n id key hash reply s) ≡ told (answered n id key hash reply t)
unfolding answered
told_whatever n id key hash reply s t = by (eqb n 0) (invalidates n)
  where
    by : (x y : Bool)
        → told (cond x (replied 0 id reply s) (cond y (replied n (invalidation hash key) reply s) (untouched n reply s)))
        ≡ told (cond x (replied 0 id reply t) (cond y (replied n (invalidation hash key) reply t) (untouched n reply t)))
    by true y = refl
    by false true = refl
    by false false = refl

-- an ending tells its number alone
abbrev telling : ℕ → Told
telling n = record { number = n; length = 0; reply = [] }

ending_tells : (iv : List ℕ) (state : State) → told (ended iv state) ≡ telling (first (end_checks iv state))
unfolding ended
ending_tells iv state = by (eqb (first (end_checks iv state)) 0) refl
  where
    by : (t : Bool) → eqb (first (end_checks iv state)) 0 ≡ t
        → told (cond t (untouched 0 [] (indexed (without state.table iv))) (untouched (first (end_checks iv state)) [] state)) ≡ telling (first (end_checks iv state))
    by true e = ap telling (sym (eqb-true _ 0 e))
    by false e = refl

-- a request is told the same where the sizes fit alike and its session's record is the same
module _ (q : Request) (a b : State) (sizes : state_fits a ≡ state_fits b) (wa : WellFormed (records a.table)) (wb : WellFormed (records b.table))
    (ra : Right a) (rb : Right b) (session : session_in (iv_of q) a.table ≡ session_in (iv_of q) b.table) where
  entry_alike : entry_part q a ≡ entry_part q b
  unfolding entry_part entry_checks state_checks request_fits
  entry_alike = rw (sizes, is_well_formed _ wa, is_well_formed _ wb, right_same a ra, right_same b rb) refl

  admitting_alike : admitting_part q a.table ≡ admitting_part q b.table
  unfolding session_part nonce_part keeps_hash stepped
  admitting_alike = rw (alike_nowhere (iv_of q) a.table b.table session, session) refl

  checks_alike : request_checks q a ≡ request_checks q b
  unfolding request_checks
  checks_alike = ap₂ (λ (entry admitting : List Check). entry ++ (reading_part q ++ (vouching_part q ++ admitting))) entry_alike admitting_alike

  judge_told : told (judged q a) ≡ told (judged q b)
  unfolding judged
  judge_told =
      told_whatever (first (request_checks q a)) (token_of q).id (token_of q).key (hash_of q) q.reply _ a
      ∙ ap (λ (cs : List Check). told (answered (first cs) (token_of q).id (token_of q).key (hash_of q) q.reply a)) checks_alike
      ∙ told_whatever (first (request_checks q b)) (token_of q).id (token_of q).key (hash_of q) q.reply a _

-- so is an ending
module _ (iv : List ℕ) (a b : State) (sizes : state_fits a ≡ state_fits b) (wa : WellFormed (records a.table)) (wb : WellFormed (records b.table))
    (ra : Right a) (rb : Right b) (session : session_in iv a.table ≡ session_in iv b.table) where
  end_alike : end_checks iv a ≡ end_checks iv b
  unfolding end_checks state_checks end_fits
  end_alike = rw (sizes, is_well_formed _ wa, is_well_formed _ wb, right_same a ra, right_same b rb, alike_nowhere iv a.table b.table session) refl

  end_told : told (ended iv a) ≡ told (ended iv b)
  end_told = ending_tells iv a ∙ ap (λ (cs : List Check). telling (first cs)) end_alike ∙ sym (ending_tells iv b)

-- two turns into one record leave a session standing alike
alike_after : (to : ℕ → ℕ) (iv a b a' b' : List ℕ) (f g : Record → Record) → Turns iv f a a' → Turns iv g b b' → StandsAlike to iv a b → f (session_in iv a) ≡ g (session_in iv b)
    → StandsAlike to iv a' b'
alike_after to iv a b a' b' f g ta tb alike e = record {
  session = ta.session ∙ e ∙ sym tb.session;
  place = λ p. rw (ta.place, tb.place, e) (by p (is_used (g (session_in iv b))));
  within = λ p. rw (ta.long, tb.long) (alike.within p);
}
  where
    by : (p : ℕ) (t : Bool) → (cond t (place_of a iv) None ≡ Some p) ↔ (cond t (place_of b iv) None ≡ Some (to p))
    by p true = alike.place p
    by p false = (λ z. absurd (nowhere_at p z), λ z. absurd (nowhere_at (to p) z))

-- the IV that a request bears is that of its field
pub carries : (q : Request) (iv : List ℕ) → passes (λ other. same other iv) (cond (legible q) (some (iv_of q)) none) ≡ true → iv_of q ≡ iv
carries q iv = by (legible q)
  where
    by : (t : Bool) → passes (λ other. same other iv) (cond t (some (iv_of q)) none) ≡ true → iv_of q ≡ iv
    by true e = same_equal (iv_of q) iv e
    by false e = absurd (false≢true e)

-- a call tells the same on two tables, and leaves a session standing alike in them
pub record GoesAlike (to : ℕ → ℕ) (iv : List ℕ) (call : Call) (a b : State) : Type 0 where
  pub told : told (answer call a) ≡ told (answer (elsewhere to call) b)
  pub stands : StandsAlike to iv (answer call a).state.table (answer (elsewhere to call) b).state.table

module _ (to : ℕ → ℕ) (a b : State) (ra : Ready a) (rb : Ready b) where
  sizes : state_fits a ≡ state_fits b
  sizes = ra.sizes ∙ sym rb.sizes

  judge_alike : (q : Request) → StandsAlike to (iv_of q) a.table b.table → GoesAlike to (iv_of q) (judging q) a b
  judge_alike q alike =
      let tells = judge_told q a b sizes ra.well rb.well ra.index rb.index alike.session in
      record {
        told = tells;
        stands =
            alike_after to (iv_of q) _ _ _ _ _ _ (judge_turns q a ra.well ra.whole) (judge_turns q b rb.well rb.whole) alike
            (ap₂ (turned q) (ap (λ (t : Told). t.number) tells) alike.session);
      }

  one_alike : (place : ℕ) (q : Request) → StandsAlike to (iv_of q) a.table b.table → GoesAlike to (iv_of q) (judging_one place q) a b
  one_alike place q alike =
      let session = one_session to (iv_of q) a b ra.well rb.well alike place in
      let tells =
      judge_told q (taken_out place a) (taken_out (to place) b) (one_sizes to (iv_of q) a b ra.well rb.well alike place)
      (one_well a ra.well place) (one_well b rb.well (to place)) (one_right a ra.well place) (one_right b rb.well (to place)) session in
      record {
        told = tells;
        stands =
            alike_after to (iv_of q) _ _ _ _ _ _ (one_turns place q a ra.well ra.whole) (one_turns (to place) q b rb.well rb.whole) alike
            (ap (λ (t : Bool). cond t (session_in (iv_of q) a.table) (turned q (judged_at place q a).number (session_in (iv_of q) a.table))) (alike_nowhere (iv_of q) (taken_out place a).table (taken_out (to place) b).table session)
            ∙ ap₂ (λ (n : ℕ) (r : Record). turned_at (to place) q b n r) (ap (λ (t : Told). t.number) tells) alike.session);
      }

  ended_alike : (iv : List ℕ) → StandsAlike to iv a.table b.table → GoesAlike to iv (ending iv) a b
  ended_alike iv alike =
      let tells = end_told iv a b sizes ra.well rb.well ra.index rb.index alike.session in
      record {
        told = tells;
        stands =
            alike_after to iv _ _ _ _ _ _ (end_turns iv a ra.well ra.whole) (end_turns iv b rb.well rb.whole) alike
            (ap₂ (λ (n : ℕ) (r : Record). cond (eqb n 0) freed r) (ap (λ (t : Told). t.number) tells) alike.session);
      }

  -- by the IV that the call bears
  borne_so : (iv : List ℕ) (call : Call) {v : List ℕ} → v ≡ iv → (StandsAlike to v a.table b.table → GoesAlike to v call a b)
      → StandsAlike to iv a.table b.table → GoesAlike to iv call a b
  borne_so iv call e goes alike = subst (λ (v : List ℕ). GoesAlike to v call a b) e (goes (subst (λ (v : List ℕ). StandsAlike to v a.table b.table) (sym e) alike))

  pub goes_alike : (iv : List ℕ) (call : Call) → NoSetup call → bears iv call ≡ true → StandsAlike to iv a.table b.table → GoesAlike to iv call a b
  goes_alike iv (setting_up s) later e alike = absurd later
  goes_alike iv (judging q) later e alike = borne_so iv (judging q) (carries q iv e) (judge_alike q) alike
  goes_alike iv (judging_one place q) later e alike = borne_so iv (judging_one place q) (carries q iv e) (one_alike place q) alike
  goes_alike iv (ending other) later e alike = borne_so iv (ending other) (same_equal other iv e) (ended_alike other) alike
  goes_alike iv making_index later e alike = absurd (false≢true e)

-- What judging a request does, by its number.
-- Assumes nothing.
use mathlib.Core.Path.{◌≡◌, refl, sym, ap, subst, ◌∙◌}
use mathlib.Core.Bool.{Bool, true, false, true≢false, cond, ◌||◌}
use mathlib.Core.List.{List, Memᴰ}
use mathlib.Core.Logic.{inl, inr}
use Prim.Native.Nat.{ℕ}
use native.Mathlib.Omega.{arith}
use borrow.Author.Tests.{eqb-true, eqb-false}
use lib.Dec.{eqb}
use Rattle.cells.specs.Runs.{Bytes}
use Rattle.table.specs.declared.session.Record.{Record}
use Rattle.table.specs.Table.{record_at}
use Rattle.table.proofs.Sessions.{record_at_fits, stepped_fits}
use Rattle.reply.specs.Replies.{invalidation}
use Rattle.reply.proofs.Lengths.{length_invalidation}
use Rattle.stages.specs.Request.{Request}
use Rattle.gate.specs.State.{State, holding, indexed, untouched, replied}
use Rattle.stages.specs.Checks.{first, nowhere}
use Rattle.gate.specs.Entry.{state_checks, entry_checks}
use Rattle.table.specs.Session.{place_of, with_record, without}
use Rattle.stages.specs.Parts.{iv_of, hash_of, nonce_of, token_of, ordered, next_of, reading_part, covering_part, token_part, signature_part, vouching_part, session_part, nonce_part, admitting_part, invalidates}
use Rattle.gate.specs.Judge.{entry_part, request_checks, state_after, answered, outcome_at, judged}
use Rattle.demands.specs.Order.{Exactly}
use Rattle.stages.proofs.Checks.{comes_later}
use Rattle.demands.proofs.Shared.Order.{first_among, first_exactly}
use Rattle.gate.proofs.Numbers.{request_numbered}
use Rattle.demands.proofs.Shared.Checks.{accepted_passes, read_through, finds}
use Rattle.demands.proofs.Shared.Others.{passes_finds}
use Rattle.demands.proofs.Shared.Answers.{stepped_for, next, ordered_table, unordered_table, fronted_replied}
use Rattle.demands.specs.Tables.{Replaced, SessionAt}
use Rattle.demands.proofs.Shared.Stored.{replaced}
use Rattle.demands.proofs.Shared.Named.{session_found, somewhere, freed_there, freed_nowhere}
use Rattle.demands.proofs.Shared.Passed.{Passed, passed, accepted_passed}
use Rattle.demands.proofs.Shared.Indexes.{without_right}
use Rattle.demands.proofs.Shared.Carried.{nonce_small}
use Rattle.demands.specs.Effects.{judge_numbers, TenOrThirteen, Invalidated, Moved, Accepted, JudgeEffects}

-- at 10 and 13 the record is freed, and the reply is the invalidation
freed_by : (q : Request) (n : ℕ) (state : State) → Passed q state → Invalidated q state (replied n (invalidation (hash_of q) (token_of q).key) q.reply (indexed (without state.table (iv_of q))))
freed_by q n state p = record {
  long = length_invalidation (hash_of q) (token_of q).key;
  reply = fronted_replied n (invalidation (hash_of q) (token_of q).key) q.reply (indexed (without state.table (iv_of q)));
  freed = λ place s. freed_there state.table (iv_of q) place p.well s;
  kept = λ none. ap indexed (freed_nowhere state.table (iv_of q) none) ∙ ap (holding state.table) (sym p.index);
  index = without_right state.table (iv_of q) p.well;
}

stepped_there : (q : Request) (state : State) (place : ℕ) → Passed q state → SessionAt state.table (iv_of q) place → Bytes state.table
    → ordered q ≡ true → Moved state.table (stepped_for q state.table) place (nonce_of q)
stepped_there q state place p s b o =
    let r = next (nonce_of q) (record_at state.table place) in
    let small = stepped_fits (record_at state.table place) (nonce_of q) (record_at_fits state.table place s.within b) (nonce_small q state p) in
    let there = session_found state.table (iv_of q) place p.well s in
    let all : Replaced state.table (stepped_for q state.table) place r =
    rw (ordered_table q state.table place there o) (replaced state.table place r s.within small) in
    record {
      session = all;
      used = ap (λ (x : Record). x.used) all.here;
      iv = ap (λ (x : Record). x.iv) all.here;
      expiry = ap (λ (x : Record). x.expiry) all.here;
      hash = ap (λ (x : Record). x.hash) all.here;
    }

accepts : (q : Request) (state : State) → first (request_checks q state) ≡ 0 → Accepted q state (replied 0 (token_of q).id q.reply (holding (stepped_for q state.table) state.index))
accepts q state e =
    let p = accepted_passed q state e in
    let f = passes_finds q state (accepted_passes q state e) in
    let s = somewhere state.table (iv_of q) (ap nowhere f.finds) in
    record {
      session = s;
      reply = fronted_replied 0 (token_of q).id q.reply (holding (stepped_for q state.table) state.index);
      index = refl;
      ordered = λ b o. stepped_there q state s.place p s.is b o;
      unordered = λ o. ap (λ (t : List ℕ). holding t state.index) (unordered_table q state.table o);
    }

ten_or_thirteen : (n : ℕ) → invalidates n ≡ true → TenOrThirteen n
ten_or_thirteen n e = by (eqb n 10) refl e
  where
    by : (t : Bool) → eqb n 10 ≡ t → (t || eqb n 13) ≡ true → TenOrThirteen n
    by true p f = inl (eqb-true n 10 p)
    by false p f = inr (eqb-true n 13 f)

pub two_invalidate : (n : ℕ) → TenOrThirteen n → invalidates n ≡ true
two_invalidate n (inl e) = ap invalidates e
two_invalidate n (inr e) = ap invalidates e

-- such a request was read, and its token opens
two_passed : (q : Request) (state : State) (n : ℕ) → TenOrThirteen n → first (request_checks q state) ≡ n → Passed q state
unfolding entry_part reading_part covering_part entry_checks state_checks
two_passed q state n (inl o) e = passed q state 10 refl refl (λ z. omega arith) (e ∙ o)
two_passed q state n (inr o) e = passed q state 13 refl refl (λ z. omega arith) (e ∙ o)

-- one that is idle has a session
idle_found : (q : Request) (state : State) → first (request_checks q state) ≡ 13 → nowhere (place_of state.table (iv_of q)) ≡ false
unfolding entry_part reading_part covering_part token_part signature_part entry_checks state_checks
idle_found q state e =
    let read = read_through q state 13 refl refl e in
    finds q state (nonce_part q state.table) 13 (comes_later (vouching_part q) (admitting_part q state.table) 13 refl refl read.later).later (λ z. omega arith)

-- the three ways in which a judged request ends
judge_zero : (q : Request) (state : State) → first (request_checks q state) ≡ 0 → JudgeEffects q state (replied 0 (token_of q).id q.reply (holding (stepped_for q state.table) state.index))
judge_zero q state e = record {
  listed = Memᴰ.head refl;
  in_order = subst (Exactly (request_checks q state)) e (first_exactly (request_checks q state) (request_numbered q state));
  refused = λ h two. absurd (omega arith);
  invalidated = λ two. absurd (true≢false (sym (two_invalidate 0 two)));
  idle = λ o. absurd (omega arith);
  passed = λ o. accepts q state e;
}

judge_freed : (q : Request) (state : State) (n : ℕ) → first (request_checks q state) ≡ n → Memᴰ n judge_numbers → invalidates n ≡ true
    → JudgeEffects q state (replied n (invalidation (hash_of q) (token_of q).key) q.reply (indexed (without state.table (iv_of q))))
judge_freed q state n e m u =
    let two = ten_or_thirteen n u in
    let p = two_passed q state n two e in
    record {
      listed = m;
      in_order = subst (Exactly (request_checks q state)) e (first_exactly (request_checks q state) (request_numbered q state));
      refused = λ h other. absurd (other two);
      invalidated = λ two. freed_by q n state p;
      idle = λ o. somewhere state.table (iv_of q) (idle_found q state (e ∙ o));
      passed = λ o. absurd (true≢false (sym u ∙ ap invalidates o));
    }

judge_kept : (q : Request) (state : State) (n : ℕ) → first (request_checks q state) ≡ n → Memᴰ n judge_numbers → eqb n 0 ≡ false
    → invalidates n ≡ false → JudgeEffects q state (untouched n q.reply state)
judge_kept q state n e m z u = record {
  listed = m;
  in_order = subst (Exactly (request_checks q state)) e (first_exactly (request_checks q state) (request_numbered q state));
  refused = λ h other. record { long = refl; reply = refl; state = refl };
  invalidated = λ two. absurd (true≢false (sym (two_invalidate n two) ∙ u));
  idle = λ o. absurd (true≢false (sym (ap invalidates o) ∙ u));
  passed = λ o. absurd (eqb-false n 0 z o);
}

judge_by : (q : Request) (state : State) (n : ℕ) → first (request_checks q state) ≡ n → Memᴰ n judge_numbers
    → JudgeEffects q state (outcome_at n q state)
unfolding answered state_after without
judge_by q state n e m = by (eqb n 0) refl (invalidates n) refl
  where
    next_state : (o : Bool) → State
    next_state o = cond o (holding (with_record state.table (place_of state.table (iv_of q)) (next_of q state.table)) state.index) state

    left : Bool → Bool → State
    left t u = cond t (next_state (ordered q)) (cond u (indexed (without state.table (iv_of q))) state)

    one : (o : Bool) → holding (cond o (with_record state.table (place_of state.table (iv_of q)) (next_of q state.table)) state.table) state.index ≡ next_state o
    one true = refl
    one false = refl

    by : (t : Bool) → eqb n 0 ≡ t → (u : Bool) → invalidates n ≡ u
        → JudgeEffects q state (cond t (replied 0 (token_of q).id q.reply (left t u)) (cond u (replied n (invalidation (hash_of q) (token_of q).key) q.reply (left t u)) (untouched n q.reply (left t u))))
    by true z u v =
        subst (λ (s : State). JudgeEffects q state (replied 0 (token_of q).id q.reply s)) (one (ordered q)) (judge_zero q state (e ∙ eqb-true n 0 z))
    by false z true v = judge_freed q state n e m v
    by false z false v = judge_kept q state n e m z v

pub judge_effects : (q : Request) (state : State) → JudgeEffects q state (judged q state)
unfolding judged request_checks entry_part reading_part covering_part token_part signature_part session_part nonce_part entry_checks state_checks
judge_effects q state = judge_by q state (first (request_checks q state)) refl (first_among (request_checks q state))

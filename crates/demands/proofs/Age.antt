-- Document 02, K1: "60 passes, 61 is 14", and K6: "a request whose t is more than 30 seconds ahead of now is refused; 30 passes". A request
-- that passes the checks other than those of its nonce, come at another time before its token's expiry, passes them from 30 seconds before its
-- time until its request life after it, and is 21 before that span and 14 after it (`by_life`). Where the orders leave the request life at 0
-- that is 60 seconds (`by_default`), and where they name 300 it is 300 (`as_named`). What is accepted is in its span (`accepted_in_span`), so a
-- recorded request is of no use outside it, whatever the table has become (`recorded`).
-- Assumes nothing.
use mathlib.Core.Path.{◌≡◌, refl, sym, subst, ◌∙◌}
use mathlib.Core.Bool.{Bool, true, false, cond}
use mathlib.Core.List.{List, [], ◌++◌}
use mathlib.Core.Logic.{◌⊎◌, inl, inr}
use Prim.Native.Nat.{ℕ, ◌+◌, ◌<◌}
use native.Mathlib.Omega.{arith}
use borrow.Author.Tests.{lt-leb, lt-ltb, le-ltb}
use Rattle.orders.proofs.Orders.{life_default, life_named}
use Rattle.window.specs.Time.{exceeds, most_ahead}
use Rattle.window.proofs.Times.{exceeds_sum, within, ahead}
use Rattle.gate.specs.State.{State}
use Rattle.gate.specs.Sizes.{brought_fits, lent_fits, request_fits}
use Rattle.stages.specs.Request.{Request}
use Rattle.stages.specs.Checks.{Check, first}
use Rattle.stages.specs.Parts.{hash_of, keeps_hash, fields_of, iv_of, nonce_of, time_of, last_time_of, signature_of, opened_of, token_of, limits, text_of, code_of, twice, reading_part, covering_part, token_part, signature_part, vouching_part, session_part, nonce_part, admitting_part}
use Rattle.stages.proofs.Checks.{passed_at}
use Rattle.stages.proofs.Parts.{vouching_numbered, session_numbered}
use Rattle.gate.specs.Judge.{entry_part, request_checks, judged}
use Rattle.demands.specs.Passing.{PassesOthers}
use Rattle.demands.specs.Age.{arriving, InSpan, Ages}
use Rattle.demands.proofs.Shared.Checks.{accepted_passes, vouched_decides}
use Rattle.demands.proofs.Shared.Answers.{judged_number_lem}
use Rattle.demands.proofs.Shared.Others.{parts}

module _ (q : Request) (state : State) (others : PassesOthers q state) (clock : ℕ) (lasts : clock < (token_of q).expiry) where
  abbrev later : Request
  later = arriving clock q

  vouched : first (vouching_part later) ≡ 0
  unfolding token_part signature_part signature_of code_of text_of nonce_of time_of last_time_of hash_of token_of opened_of iv_of fields_of
  vouched =
      let past = passed_at (vouching_part q) (vouching_numbered q) (parts q state others).vouching in
      rw (past 9, lt-leb (token_of q).expiry clock lasts, past 11) refl

  decided : (rest : List Check) → first (entry_part later state ++ (reading_part later ++ (vouching_part later ++ rest))) ≡ first rest
  unfolding entry_part request_fits lent_fits brought_fits reading_part covering_part twice fields_of
  decided rest = vouched_decides later state rest (parts q state others).entry (parts q state others).reading vouched

  -- what the session says, by whether the request is too old and whether it is too far ahead
  aged : (t u : Bool) (rest : List Check) → exceeds clock (time_of q) (limits q).request_life ≡ t → exceeds (time_of q) clock most_ahead ≡ u
      → first (session_part later state.table ++ rest) ≡ cond t 14 (cond u 21 (first rest))
  unfolding session_part keeps_hash hash_of time_of last_time_of limits iv_of fields_of
  aged t u rest e f =
      let past = passed_at (session_part q state.table) (session_numbered q state.table) (parts q state others).session in
      rw (past 12, past 8, past 13, e, f) refl

  told : (t u : Bool) → exceeds clock (time_of q) (limits q).request_life ≡ t → exceeds (time_of q) clock most_ahead ≡ u
      → (judged later state).number ≡ cond t 14 (cond u 21 (first (nonce_part later state.table)))
  unfolding request_checks
  told t u e f =
      judged_number_lem later state ∙ decided (admitting_part later state.table) ∙ aged t u (nonce_part later state.table) e f

pub by_life : (q : Request) (state : State) → PassesOthers q state → Ages q state (limits q).request_life
unfolding session_part
by_life q state others = record {
  passes = λ clock lasts young near.
      decided q state others clock lasts (session_part (arriving clock q) state.table)
      ∙ aged q state others clock lasts false false [] (exceeds_sum clock (time_of q) _ ∙ le-ltb _ _ young) (exceeds_sum (time_of q) clock _ ∙ le-ltb _ _ near);
  refused = λ clock lasts old. told q state others clock lasts true _ (exceeds_sum clock (time_of q) _ ∙ lt-ltb _ _ old) refl;
  too_far_ahead = λ clock lasts early.
      told q state others clock lasts false true (ahead clock (time_of q) _ (omega arith)) (exceeds_sum (time_of q) clock _ ∙ lt-ltb _ _ early);
}

-- 60 seconds pass and 61 are 14 where the orders leave the request life at 0
pub by_default : (q : Request) (state : State) → PassesOthers q state → q.orders.numbers.request_life ≡ 0 → Ages q state 60
unfolding limits
by_default q state others e = subst (Ages q state) (life_default q.orders e) (by_life q state others)

-- 300 pass and 301 are 14 where they name 300
pub as_named : (q : Request) (state : State) → PassesOthers q state → q.orders.numbers.request_life ≡ 300 → Ages q state 300
unfolding limits
as_named q state others e = subst (Ages q state) (life_named q.orders 300 (omega arith) e) (by_life q state others)

-- over any table, so over the one record that the thin entry is lent too
pub accepted_in_span : (q : Request) (state : State) → (judged q state).number ≡ 0 → InSpan q
unfolding session_part
accepted_in_span q state e =
    let session = (parts q state (accepted_passes q state (sym (judged_number_lem q state) ∙ e))).session in
    let past = passed_at (session_part q state.table) (session_numbered q state.table) session in
    record { young = within q.clock (time_of q) _ (past 14); near = within (time_of q) q.clock 30 (past 21) }

pub recorded : (q : Request) (state : State) (clock : ℕ) → (clock + 30 < time_of q) ⊎ (time_of q + (limits q).request_life < clock)
    → (judged (arriving clock q) state).number ≡ 0 → ⊥
unfolding time_of fields_of limits
recorded q state clock (inl early) e = let near = (accepted_in_span (arriving clock q) state e).near in omega arith
recorded q state clock (inr late) e = let young = (accepted_in_span (arriving clock q) state e).young in omega arith

-- What the calls of a scanner have passed that are answered 0, and the state that they leave.
-- Assumes nothing.
use mathlib.Core.Path.{◌≡◌, refl, sym, ap, ◌∙◌}
use mathlib.Core.Bool.{Bool, true, false, cond, not}
use mathlib.Core.List.{List}
use mathlib.Core.Logic.{◌⊎◌, inl, inr}
use Prim.Native.Nat.{ℕ, suc, ◌+◌, ◌≤◌, ◌<◌, ◌^◌}
use native.Mathlib.Omega.{arith}
use borrow.Author.Tests.{eqb-true, le-leb, le-ltb, ltb-false, not-false}
use lib.Dec.{eqb, leb, ltb}
use lib.ListN.{length, take}
use lib.Seq.{take-append_seam}
use Rattle.cells.specs.Runs.{Bytes, fronted}
use Rattle.cells.proofs.Equality.{same_self}
use Rattle.cells.proofs.Tests.{tested, both}
use Rattle.signed.specs.SignedText.{orders_nonce}
use Rattle.reply.specs.LaidOut.{is_reply}
use Rattle.scanner.specs.State.{state_size, Session, no_session, state_of, session_in, good_session, in_session}
use Rattle.scanner.specs.Sign.{Draft, draft_fits, draft_good, sign_number, value_in, advanced, Outcome, sign_outcome, signed}
use Rattle.scanner.specs.Begin.{begun_with, begin_number, answer, begun}
use Rattle.scanner.specs.Hear.{own_invalidation, hear_number, heard}
use Rattle.scanner.proofs.States.{Sized, good, told_again, is_in_session, tells, sized}

-- a refusal that is not given
past : (t : Bool) (n later : ℕ) → cond t (suc n) later ≡ 0 → (t ≡ false) × (later ≡ 0)
past true n later e = absurd (omega arith)
past false n later e = (refl, e)

pub begun_passed : (time : ℕ) (reply state : List ℕ) → (begun time reply state).number ≡ 0 → (length state ≡ state_size) × (is_reply reply ≡ true)
unfolding begun begin_number
begun_passed time reply state e =
    let sized = past (not (eqb (length state) state_size)) 0 _ (by (begin_number reply state) (eqb (begin_number reply state) 0) refl e) in
    let short = past (not (leb (length reply) 459)) 2 _ sized.1 in
    (eqb-true _ _ (not-false _ sized.0), not-false _ (past (not (is_reply reply)) 3 0 short.1).0)
  where
    by : (n : ℕ) (t : Bool) → eqb n 0 ≡ t → (cond t (answer 0 (state_of (begun_with time reply))) (answer n state)).number ≡ 0 → n ≡ 0
    by n true z f = eqb-true n 0 z
    by n false z f = f

module _ (d : Draft) (state out : List ℕ) where
  abbrev k : Session
  k = session_in state

  abbrev picked : ℕ → Outcome
  picked n = sign_outcome n (value_in k d) (state_of (advanced k d.clock)) out state

  pub record Made : Type 0 where
    pub is_in_session : in_session state ≡ true
    pub left : k.next ≤ 4294967295
    pub fits : draft_fits d out ≡ true
    pub good : draft_good d k.grant ≡ true
    pub is : signed d state out ≡ picked 0

  pub number_is : (signed d state out).number ≡ sign_number d state out
  unfolding signed
  number_is = by (sign_number d state out) (eqb (sign_number d state out) 0) refl
    where
      by : (n : ℕ) (t : Bool) → eqb n 0 ≡ t
          → (cond t (picked 0) (record { number = n; length = 0; out = out; state = state })).number ≡ n
      by n true e = sym (eqb-true n 0 e)
      by n false e = refl

  pub made : (signed d state out).number ≡ 0 → Made
  unfolding sign_number signed
  made e =
      let zero = sym number_is ∙ e in
      let is_in_session = past (not (in_session state)) 0 _ zero in
      let left = past (ltb 4294967295 k.next) 1 _ is_in_session.1 in
      let rest = both (draft_fits d out) (draft_good d k.grant) (not-false _ (past _ 2 0 left.1).0) in
      record {
        is_in_session = not-false (in_session state) is_in_session.0;
        left = ltb-false 4294967295 k.next left.0;
        fits = rest.0;
        good = rest.1;
        is = ap picked zero;
      }

  pub makes : in_session state ≡ true → k.next ≤ 4294967295 → draft_fits d out ≡ true → draft_good d k.grant ≡ true → (signed d state out).number ≡ 0
  unfolding sign_number
  makes is_in_session left fits right = number_is ∙ rw (is_in_session, le-ltb 4294967295 k.next left, fits, right) refl

  -- its value is the front of the buffer
  pub value_is : (signed d state out).number ≡ 0 → take (signed d state out).length (signed d state out).out ≡ value_in k d
  unfolding fronted
  value_is e = ap (λ (o : Outcome). take o.length o.out) (made e).is ∙ take-append_seam (value_in k d) _

  -- one that is not made keeps the state
  pub made_or_kept : ((signed d state out).number ≡ 0) ⊎ ((signed d state out).state ≡ state)
  unfolding signed
  made_or_kept = tested (eqb (sign_number d state out) 0) (λ t. inl (number_is ∙ eqb-true _ 0 t)) (λ t. inr (rw t refl))

-- the session after a request
module _ (k : Session) (clock : ℕ) where
  pub advanced_grant : (advanced k clock).grant ≡ k.grant
  unfolding advanced
  advanced_grant = refl

  pub advanced_next : k.next ≤ (advanced k clock).next
  unfolding advanced
  advanced_next = omega arith

  pub advanced_sized : Sized k → clock < 2 ^ 32 → Sized (advanced k clock)
  unfolding advanced
  advanced_sized z small = record { s = z.s; iv = z.iv; tag = z.tag; key = z.key; last_time = small }

  next_most : (o : Bool) → k.next ≤ 4294967295 → k.next ≤ cond o 4294967296 0 → k.next + cond o 1 0 ≤ cond o 4294967296 0
  next_most true left most = omega arith
  next_most false left most = omega arith

  pub advanced_good : good_session k ≡ true → k.next ≤ 4294967295 → good_session (advanced k clock) ≡ true
  unfolding good_session advanced
  advanced_good e left =
      let g = good k e in
      rw (le-leb 1 (length k.grant.s) g.some, g.orders, le-leb _ _ (next_most (orders_nonce k.grant.mask) left g.next)) refl

-- a state that is written of a session, as one of bytes that tells of a session is
pub record Kept (k : Session) (state : List ℕ) : Type 0 where
  pub is : state ≡ state_of k
  pub sized : Sized k
  pub good : good_session k ≡ true

pub in_kept : (state : List ℕ) → Bytes state → in_session state ≡ true → Kept (session_in state) state
in_kept state are e = let t = tells state e in record { is = t.written; sized = sized state e are; good = t.good }

module _ {k : Session} {state : List ℕ} (kept : Kept k state) where
  pub kept_told : session_in state ≡ k
  kept_told = ap session_in kept.is ∙ told_again k kept.sized kept.good

  pub kept_in : in_session state ≡ true
  kept_in = ap in_session kept.is ∙ is_in_session k kept.sized kept.good

  pub kept_signed : (d : Draft) (out : List ℕ) → d.clock < 2 ^ 32 → (signed d state out).number ≡ 0 → Kept (advanced k d.clock) (signed d state out).state
  kept_signed d out small e =
      let m = made d state out e in
      record {
        is = ap (λ (o : Outcome). o.state) m.is ∙ ap (λ (l : Session). state_of (advanced l d.clock)) kept_told;
        sized = advanced_sized k d.clock kept.sized small;
        good = advanced_good k d.clock kept.good (rw kept_told at m.left);
      }

  -- its own invalidation is believed
  pub kept_ended : heard (own_invalidation k.grant) state ≡ answer 0 no_session
  unfolding heard hear_number
  kept_ended = rw (kept_in, kept_told, same_self (own_invalidation k.grant)) refl

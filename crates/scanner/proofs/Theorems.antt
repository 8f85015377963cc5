-- What is shown of the three calls by themselves: document 02, K14. A scanner and its gate: crates/demands/proofs/Scanner.antt.
-- Assumes nothing.
use mathlib.Core.Path.{◌≡◌, refl, sym, ap, ◌∙◌}
use mathlib.Core.Logic.{◌↔◌}
use mathlib.Core.Bool.{Bool, true, false, true≢false, cond, not, ◌&&◌}
use mathlib.Core.List.{List}
use Prim.Native.Nat.{ℕ, ◌/◌, ◌%◌, ◌≤◌, ◌<◌, ◌^◌}
use native.Mathlib.Omega.{arith}
use borrow.Author.Tests.{le-ltb}
use lib.Dec.{eqb, ltb}
use Rattle.cells.specs.Runs.{Bytes, same}
use Rattle.cells.specs.Text.{codes}
use Rattle.cells.proofs.Equality.{same_equal, same_self}
use Rattle.cells.proofs.Tests.{tested}
use Rattle.hmac.specs.Hmac.{hmac_of}
use Rattle.armor.specs.Value.{field, field_text}
use Rattle.signed.specs.SignedText.{orders_nonce}
use Rattle.reply.specs.Replies.{invalidation}
use Rattle.scanner.specs.State.{no_session, state_of, session_in, in_session}
use Rattle.scanner.specs.Begin.{begun_with, begin_number, Answer, answer, begun}
use Rattle.scanner.specs.Sign.{Draft, draft_fits, draft_good, sign_number, value_in, advanced, Outcome, outcome, sign_outcome, signed}
use Rattle.scanner.specs.Hear.{own_invalidation, hear_number, heard}
use Rattle.scanner.proofs.States.{good, tells}
use Rattle.scanner.proofs.Calls.{number_is, made, in_kept, kept_told, kept_in, kept_signed}

-- any two results that a contract allows are equal: of begin and hear
pub answer_determined : (a : Answer) (r r' : ℕ) (left left' : List ℕ) → answer r left ≡ a → answer r' left' ≡ a → (r ≡ r') × (left ≡ left')
answer_determined a r r' left left' p q = let e = p ∙ sym q in (ap (λ (b : Answer). b.number) e, ap (λ (b : Answer). b.state) e)

-- and of sign, whose answer holds number and length
pub outcome_determined : (o : Outcome) (r r' : ℕ) (out out' left left' : List ℕ) → outcome r out left ≡ o → outcome r' out' left' ≡ o
    → (r ≡ r') × (out ≡ out') × (left ≡ left')
outcome_determined o r r' out out' left left' p q =
    let e = p ∙ sym q in
    let number : r % 256 ≡ r' % 256 = ap (λ (b : Outcome). b.number) e in
    let long : r / 256 ≡ r' / 256 = ap (λ (b : Outcome). b.length) e in
    (omega arith, ap (λ (b : Outcome). b.out) e, ap (λ (b : Outcome). b.state) e)

-- what an answer is where it is not 0
refused : (n : ℕ) (new state : List ℕ) → 1 ≤ (cond (eqb n 0) (answer 0 new) (answer n state)).number
    → (cond (eqb n 0) (answer 0 new) (answer n state)).state ≡ state
refused n new state = by (eqb n 0)
  where
    by : (t : Bool) → 1 ≤ (cond t (answer 0 new) (answer n state)).number → (cond t (answer 0 new) (answer n state)).state ≡ state
    by true some = absurd (omega arith)
    by false some = refl

-- a refusal keeps the state
pub begin_untouched : (time : ℕ) (reply state : List ℕ) → 1 ≤ (begun time reply state).number → (begun time reply state).state ≡ state
unfolding begun
begin_untouched time reply state = refused (begin_number reply state) (state_of (begun_with time reply)) state

pub hear_untouched : (value state : List ℕ) → 1 ≤ (heard value state).number → (heard value state).state ≡ state
unfolding heard
hear_untouched value state = refused (hear_number value state) no_session state

-- and makes nothing
pub sign_untouched : (d : Draft) (state out : List ℕ) → 1 ≤ (signed d state out).number
    → signed d state out ≡ record { number = (signed d state out).number; length = 0; out = out; state = state }
unfolding signed
sign_untouched d state out = by (eqb (sign_number d state out) 0)
  where
    picked : Bool → Outcome
    picked t =
        cond t (sign_outcome 0 (value_in (session_in state) d) (state_of (advanced (session_in state) d.clock)) out state)
        (record { number = sign_number d state out; length = 0; out = out; state = state })

    by : (t : Bool) → 1 ≤ (picked t).number → picked t ≡ record { number = (picked t).number; length = 0; out = out; state = state }
    by true some = absurd (omega arith)
    by false some = refl

-- after the last nonce it makes no more, whatever it is asked
pub no_more : (d : Draft) (state out : List ℕ) → Bytes state → d.clock < 2 ^ 32 → orders_nonce (session_in state).grant.mask ≡ true
    → (session_in state).next ≡ 4294967295 → (signed d state out).number ≡ 0
    → (e : Draft) (room : List ℕ) → (signed e (signed d state out).state room).number ≡ 2
unfolding sign_number advanced
no_more d state out are small ordered last done e room =
    let after = kept_signed (in_kept state are (made d state out done).is_in_session) d out small done in
    let none : ltb 4294967295 (advanced (session_in state) d.clock).next ≡ true = rw (ordered, last) refl in
    number_is e (signed d state out).state room ∙ rw (kept_in after, kept_told after, none) refl

-- and without nonces none is ever lacking
pub never_lacks : (d : Draft) (state out : List ℕ) → orders_nonce (session_in state).grant.mask ≡ false → (signed d state out).number ≡ 2 → ⊥
unfolding sign_number
never_lacks d state out unordered two =
    let n = sym (number_is d state out) ∙ two in
    tested (in_session state)
    (λ e. let first : (session_in state).next ≤ 0 = rw unordered at (good (session_in state) (tells state e).good).next in
    by (draft_fits d out && draft_good d (session_in state).grant) (rw (e, le-ltb 4294967295 (session_in state).next (omega arith)) at n))
    (λ e. let one : ◌≡◌ {A = ℕ} 1 2 = rw e at n in omega arith)
  where
    by : (t : Bool) → ◌≡◌ {A = ℕ} (cond (not t) 3 0) 2 → ⊥
    by true z = omega arith
    by false z = omega arith

-- an invalidation is believed exactly if it holds the HMAC of `Session Expired` under the session's key and its hash
pub believed_exactly : (value state : List ℕ) → in_session state ≡ true
    → let g = (session_in state).grant in
    ((heard value state).number ≡ 0) ↔ (value ≡ field_text (field (codes "i") (hmac_of g.hash g.key (codes "Session Expired"))))
unfolding heard hear_number invalidation
believed_exactly value state e =
    let own = own_invalidation (session_in state).grant in
    tested (same value own) (λ t. (λ z. same_equal value own t, λ is. rw (e, t) refl))
    (λ t. (λ z. let four : ◌≡◌ {A = ℕ} 4 0 = rw (e, t) at z in absurd (omega arith), λ is. absurd (true≢false (sym (rw (sym is) (same_self value)) ∙ t))))

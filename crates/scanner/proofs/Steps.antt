-- What each call answers, by what its steps found.
-- Assumes nothing.
use mathlib.Core.Path.{◌≡◌, refl, ap₂, ◌∙◌}
use mathlib.Core.Bool.{true, false}
use mathlib.Core.List.{List}
use Prim.Native.Nat.{ℕ, ◌*◌, ◌≤◌, ◌<◌}
use native.Mathlib.Nat.{zero-add}
use native.Mathlib.Omega.{arith}
use borrow.Author.Tests.{eq-eqb, ne_eqb, le-leb, lt-leb, lt-ltb, le-ltb}
use lib.ListN.{length}
use Rattle.std.specs.Prelude.{Err, Option, None}
use Rattle.std.specs.Option.{ok_or}
use Rattle.cells.specs.Runs.{fronted, same}
use Rattle.cells.specs.InnerLaid.{Laid}
use Rattle.cells.proofs.Runs.{spliced_front}
use Rattle.reply.specs.LaidOut.{is_reply}
use Rattle.scanner.specs.State.{state_size, no_session, state_of, session_in, in_session}
use Rattle.scanner.specs.Begin.{begun_with, begin_number, answer, begun}
use Rattle.scanner.specs.Hear.{own_invalidation, hear_number, heard}
use Rattle.scanner.specs.Sign.{Draft, draft_fits, draft_good, sign_number, value_in, advanced, outcome, signed}
use Rattle.scanner.specs.declared.refusal.Refusal.{Refusal}

-- an option that lacks its value is refused by what stands for it
pub refused : {A : Type 0} (o : Option A) (r e : Refusal) → o ≡ None → Err e ≡ ok_or o r → e ≡ r
refused o r e n v = let w = rw n at v in cc

module _ (time : ℕ) (reply state : List ℕ) where
  pub begin_size : (length state ≡ state_size → ⊥) → answer 1 state ≡ begun time reply state
  unfolding begun begin_number
  begin_size h = rw (ne_eqb _ _ h) refl

  module _ (sized : length state ≡ state_size) where
    pub begin_long : 459 < length reply → answer 3 state ≡ begun time reply state
    unfolding begun begin_number
    begin_long h = rw (eq-eqb _ _ sized, lt-leb _ _ h) refl

    pub begin_other : length reply ≤ 459 → is_reply reply ≡ false → answer 4 state ≡ begun time reply state
    unfolding begun begin_number
    begin_other h r = rw (eq-eqb _ _ sized, le-leb _ _ h, r) refl

    pub begin_done : length reply ≤ 459 → is_reply reply ≡ true → {left : List ℕ} → left ≡ state_of (begun_with time reply) → answer 0 left ≡ begun time reply state
    unfolding begun begin_number
    begin_done h r e = rw (eq-eqb _ _ sized, le-leb _ _ h, r, e) refl

module _ (value state : List ℕ) where
  pub hear_none : in_session state ≡ false → answer 1 state ≡ heard value state
  unfolding heard hear_number
  hear_none h = rw h refl

  pub hear_other : in_session state ≡ true → same value (own_invalidation (session_in state).grant) ≡ false → answer 4 state ≡ heard value state
  unfolding heard hear_number
  hear_other h e = rw (h, e) refl

  pub hear_done : in_session state ≡ true → same value (own_invalidation (session_in state).grant) ≡ true → answer 0 no_session ≡ heard value state
  unfolding heard hear_number
  hear_done h e = rw (h, e) refl

-- an answer with a value
answered : (value out left state : List ℕ) (r : ℕ) → r ≡ length value → left ≡ fronted value out
    → outcome (256 * r) left state ≡ record { number = 0; length = length value; out = fronted value out; state = state }
answered value out left state r e f =
    rw (e, f) (ap₂ (λ (m k : ℕ). record { number = m; length = k; out = fronted value out; state = state }) (omega arith) (omega arith))

module _ (d : Draft) (state out : List ℕ) where
  pub sign_none : in_session state ≡ false → outcome 1 out state ≡ signed d state out
  unfolding signed sign_number
  sign_none h = rw h refl

  module _ (is : in_session state ≡ true) where
    pub sign_last : 4294967295 < (session_in state).next → outcome 2 out state ≡ signed d state out
    unfolding signed sign_number
    sign_last n = rw (is, lt-ltb _ _ n) refl

    module _ (n : (session_in state).next ≤ 4294967295) where
      pub sign_unfit : draft_fits d out ≡ false → outcome 3 out state ≡ signed d state out
      unfolding signed sign_number
      sign_unfit f = rw (is, le-ltb _ _ n, f) refl

      module _ (f : draft_fits d out ≡ true) where
        pub sign_bad : draft_good d (session_in state).grant ≡ false → outcome 3 out state ≡ signed d state out
        unfolding signed sign_number
        sign_bad g = rw (is, le-ltb _ _ n, f, g) refl

        pub sign_done : draft_good d (session_in state).grant ≡ true → {left next : List ℕ} {size : ℕ} → Laid out left 0 size (value_in (session_in state) d)
            → next ≡ state_of (advanced (session_in state) d.clock) → outcome (256 * size) left next ≡ signed d state out
        unfolding signed sign_number
        sign_done g {left} {next} {size} l e =
            let value = value_in (session_in state) d in
            answered value out left next size (l.ends ∙ zero-add _) (l.is ∙ spliced_front _ _) ∙ rw (is, le-ltb _ _ n, f, g, e) refl

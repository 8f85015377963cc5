-- What each call answers, by what its steps found.
-- Assumes nothing.
use mathlib.Core.Path.{◌≡◌, refl, sym, ap, ap₂, ◌∙◌}
use mathlib.Core.List.{List}
use mathlib.Core.Bool.{true, false, cond}
use Prim.Native.Nat.{ℕ, ◌*◌, ◌≤◌, ◌<◌}
use native.Mathlib.Omega.{arith}
use borrow.Author.Tests.{le-leb, lt-leb, eq-eqb, ne_eqb}
use lib.Dec.{eqb, leb}
use lib.ListN.{length}
use Rattle.std.specs.Prelude.{Ok, Err}
use Rattle.cells.specs.Numbers.{bytes_of}
use Rattle.cells.specs.Runs.{spliced}
use Rattle.cells.proofs.Runs.{spliced_front, fronted_whole}
use Rattle.cells.proofs.Numbers.{length_bytes_of}
use Rattle.cells.proofs.Tests.{tested}
use Rattle.structured.specs.Reading.{last_integer}
use Rattle.carrier.specs.Asked.{Asked, asked_fits, asked_number, answer}
use Rattle.carrier.specs.Sign.{sign_fits, sign_number, sign_text, signed}
use Rattle.carrier.specs.Verify.{verify_fits, told_number, first_refusal, agrees, judged_number, verify_number, verified}
use Rattle.carrier.specs.InnerRefusals.{number_of}
use Rattle.carrier.specs.InnerSteps.{Signs, VerdictIs}
use Rattle.carrier.specs.declared.refusal.Refusal.{Refusal}
use Rattle.carrier.specs.declared.refusal.Refusal.TheVariants.{BadSize, Malformed, BadLabel, ListedTwice, MissingField, BadSignature}

-- no refusal has the number 0
pub number_some : (r : Refusal) → eqb (number_of r) 0 ≡ false
number_some BadSize = refl
number_some Malformed = refl
number_some BadLabel = refl
number_some ListedTwice = refl
number_some MissingField = refl
number_some BadSignature = refl

module _ (a : Asked) (created : ℕ) (out : List ℕ) where
  pub sign_unfit : asked_fits a ≡ false → sign_number a created out ≡ 1
  unfolding sign_number sign_fits
  sign_unfit h = rw h refl

  pub sign_late : last_integer < created → sign_number a created out ≡ 1
  unfolding sign_number sign_fits
  sign_late h = tested (asked_fits a) (λ e. rw (e, lt-leb _ _ h) refl) (λ e. rw e refl)

  pub sign_small : length out < 4096 → sign_number a created out ≡ 1
  unfolding sign_number sign_fits
  sign_small h =
      tested (asked_fits a) (λ e. tested (leb created last_integer) (λ f. rw (e, f, lt-leb _ _ h) refl) (λ f. rw (e, f) refl)) (λ e. rw e refl)

  pub sign_asked : asked_fits a ≡ true → created ≤ last_integer → 4096 ≤ length out → sign_number a created out ≡ asked_number a
  unfolding sign_number sign_fits
  sign_asked h t o = rw (h, le-leb _ _ t, le-leb _ _ o) refl

  pub signed_done : (left : List ℕ) (size : ℕ) → Signs a created out left (Ok size) → answer (256 * size) left ≡ signed a created out
  unfolding signed
  signed_done left size s =
      let size_is : size ≡ length (sign_text a created) = omega (arith, s.1.ends) in
      ap₂ (λ (n : ℕ) (run : List ℕ). answer (256 * n) run) size_is (s.1.is ∙ spliced_front out (sign_text a created)) ∙ sym (rw s.0 refl)

  pub signed_refused : (left : List ℕ) (r : Refusal) → Signs a created out left (Err r) → answer (number_of r) left ≡ signed a created out
  unfolding signed
  signed_refused left r s = rw (s.0, s.1, number_some r) refl

module _ (a : Asked) (input signature : List ℕ) where
  module _ {n : ℕ} (first : first_refusal (asked_number a) (told_number a input signature) ≡ n) where
    pub judged_refused : (r : Refusal) → n ≡ number_of r → judged_number a input signature ≡ number_of r
    unfolding judged_number
    judged_refused r e = rw (first, e, number_some r) refl

    pub judged_agreed : n ≡ 0 → judged_number a input signature ≡ cond (agrees a input signature) 0 6
    unfolding judged_number
    judged_agreed e = rw (first, e) refl

  module _ (room : List ℕ) where
    pub verify_unfit : asked_fits a ≡ false → verify_number a input signature room ≡ 1
    unfolding verify_number verify_fits
    verify_unfit h = rw h refl

    pub verify_judged : asked_fits a ≡ true → length input ≤ 4096 → length signature ≤ 4096 → length room ≡ 8
        → verify_number a input signature room ≡ judged_number a input signature
    unfolding verify_number verify_fits
    verify_judged h i s r = rw (h, le-leb _ _ i, le-leb _ _ s, eq-eqb _ _ r) refl

    pub verify_long : 4096 < length input → verify_number a input signature room ≡ 1
    unfolding verify_number verify_fits
    verify_long h = tested (asked_fits a) (λ e. rw (e, lt-leb _ _ h) refl) (λ e. rw e refl)

    pub verify_brief : 4096 < length signature → verify_number a input signature room ≡ 1
    unfolding verify_number verify_fits
    verify_brief h =
        tested (asked_fits a) (λ e. tested (leb (length input) 4096) (λ f. rw (e, f, lt-leb _ _ h) refl) (λ f. rw (e, f) refl)) (λ e. rw e refl)

    pub verify_wide : (length room ≡ 8 → ⊥) → verify_number a input signature room ≡ 1
    unfolding verify_number verify_fits
    verify_wide h =
        tested (asked_fits a)
        (λ e. tested (leb (length input) 4096)
        (λ f. tested (leb (length signature) 4096) (λ g. rw (e, f, g, ne_eqb _ _ h) refl) (λ g. rw (e, f, g) refl)) (λ f. rw (e, f) refl)) (λ e. rw e refl)

    -- the room is filled with the time, or stays as it is
    module _ (same : verify_number a input signature room ≡ judged_number a input signature) where
      pub verified_done : (time : ℕ) (left : List ℕ) → VerdictIs a input signature (Ok time) → length room ≡ 8 → left ≡ spliced room 0 (bytes_of 8 time)
          → answer 0 left ≡ verified a input signature room
      unfolding verified
      verified_done time left v wide e =
          let filled = e ∙ spliced_front room (bytes_of 8 time) ∙ fronted_whole (bytes_of 8 time) room (length_bytes_of 8 time ∙ sym wide) in
          rw (same, v.0, ← v.1) (ap (answer 0) filled)

      pub verified_refused : (r : Refusal) → VerdictIs a input signature (Err r) → answer (number_of r) room ≡ verified a input signature room
      unfolding verified
      verified_refused r v = rw (same, v, number_some r) refl

-- Three netstrings one after the other, and nothing after them.
use Rattle.std.proofs.Common.{◌≡◌, ◌<◌, refl, sym, subst, List, ℕ, length, arith, rules}
use Rattle.token.specs.Token.{token_in}
use Rattle.token.specs.InnerHeld.{Unseals}
use Rattle.token.proofs.Reading.{none_passed, passed_more, no_part, more_follows, all_passed}
use Rattle.token.proofs.token_in.Goals as goal

pub returns-in_err-key : goal.returns-in_err-key
returns-in_err-key c = rw c.from_residual.ensures (no_part none_passed (omega arith) c.in_err-key.ensures)

pub returns-in_err-id : goal.returns-in_err-id
returns-in_err-id c =
    rw c.from_residual-in_err-id.ensures (no_part (passed_more none_passed _ _ c.in_ok-key.ensures) (omega arith) c.in_err-id.ensures)

pub returns-in_err-digits : goal.returns-in_err-digits
returns-in_err-digits c =
    rw c.from_residual-in_err-digits.ensures
    (no_part (passed_more (passed_more none_passed _ _ c.in_ok-key.ensures) _ _ c.in_ok-id.ensures) (omega arith) c.in_err-digits.ensures)

pub returns-then-not-is_empty : goal.returns-then-not-is_empty
returns-then-not-is_empty c =
    let more : 0 < length c.in_ok-digits.after_digits.now = search rules in
    more_follows (passed_more (passed_more (passed_more none_passed _ _ c.in_ok-key.ensures) _ _ c.in_ok-id.ensures) _ _ c.in_ok-digits.ensures) refl more

pub returns : goal.returns
returns c =
    let end : length c.in_ok-digits.after_digits.now ≡ 0 = search rules in
    let so = passed_more (passed_more (passed_more none_passed _ _ c.in_ok-key.ensures) _ _ c.in_ok-id.ensures) _ _ c.in_ok-digits.ensures in
    subst (λ (l : List ℕ). Unseals (token_in l) c.token_of.result) (sym (all_passed so end)) c.token_of.ensures

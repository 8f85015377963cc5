-- Each part within its size or range, or no token.
use Rattle.std.proofs.Common.{◌≡◌, sym, ◌∙◌, length, arith, rules}
use borrow.Author.Tests.{eqb-true}
use Rattle.token.proofs.Text.{Sized}
use Rattle.token.proofs.Reading.{unseals_some, token_of_lem, no_token_of}
use Rattle.token.proofs.token_of.Goals as goal
use Rattle.token.proofs.token_of.Goals.{then-is_empty-via-then-is_empty, then-is_empty-via-else-is_empty+then-id-gt-LONGEST_ID}

pub returns-in_err-key : goal.returns-in_err-key
returns-in_err-key c =
    let other : length c.args.key.now ≡ 32 → ⊥ = search rules in
    rw c.from_residual.ensures (no_token_of _ _ _ (λ n s e. other s.key_size))

pub returns-then-is_empty : goal.returns-then-is_empty
returns-then-is_empty c = no_token_of c.args.key.now c.args.id.now c.args.digits.now (λ n s e. elim c.then-is_empty.branch [
  | then-is_empty-via-then-is_empty w ↦ omega (arith, s.id_some, eqb-true _ _ (sym c.is_empty.ensures ∙ w.if-is_empty.true))
  | then-is_empty-via-else-is_empty+then-id-gt-LONGEST_ID w ↦ omega (arith, s.id_fits, w.if-id-gt-LONGEST_ID.true)
])

pub returns-in_err-read : goal.returns-in_err-read
returns-in_err-read c = rw c.from_residual-in_err-read.ensures (no_token_of _ _ _ (λ n s e. c.in_err-read.ensures n s.in_range e))

pub returns : goal.returns
returns c =
    let args = c.args in
    let key : c.in_ok-key.key ≡ args.key.now = search rules in
    let sized : Sized args.key.now args.id.now c.in_ok-read.field-0.0 =
    record { key_size = search rules; id_some = search rules; id_fits = search rules; in_range = c.in_ok-read.ensures.1 } in
    unseals_some (token_of_lem args.key.now args.id.now args.digits.now _ sized c.in_ok-read.ensures.0)
    (record { key = key; id = c.of.ensures; id_some = sized.id_some; id_fits = sized.id_fits; expiry = search rules })

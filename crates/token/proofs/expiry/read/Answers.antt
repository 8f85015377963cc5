-- Digits are those of a number exactly if they are those of their value.
use Rattle.std.proofs.Common.{◌≡◌, sym, ap, ◌∙◌, ◌≤◌, ◌^◌, length, arith, rules}
use mathlib.Core.Bool.{false≢true}
use Rattle.cells.specs.Runs.{same}
use Rattle.cells.specs.Decimal.{decimal}
use Rattle.cells.proofs.Equality.{same_equal, same_self}
use Rattle.cells.proofs.Digits.{decimal_length}
use Rattle.token.proofs.Digits.{only_number}
use Rattle.token.proofs.expiry.read.Goals as goal

pub returns-then-digits-gt10 : goal.returns-then-digits-gt10
returns-then-digits-gt10 c n below e = omega (arith, c.if-digits-gt10.true, decimal_length 9 n (omega arith), ap length e)

pub returns-in_err-time : goal.returns-in_err-time
returns-in_err-time c =
    let far : 2 ^ 32 ≤ c.value-n.result = search rules in
    rw c.from_residual.ensures (λ n below e. omega (arith, c.value-n.ensures, only_number c.args.digits.now n e))

pub returns-then-not-same : goal.returns-then-not-same
returns-then-not-same c n below e =
    let digits = c.args.digits.now in
    let compared : c.same.result ≡ same digits (decimal c.value-n.result) = search rules in
    let shown : decimal c.value-n.result ≡ digits = ap decimal (c.value-n.ensures ∙ only_number digits n e) ∙ sym e in
    false≢true (sym c.if-not-same.true ∙ compared ∙ ap (same digits) shown ∙ same_self digits)

pub returns : goal.returns
returns c =
    let digits = c.args.digits.now in
    let compared : c.same.result ≡ same digits (decimal c.value-n.result) = search rules in
    let time : c.value-n.result ≡ c.in_ok-time.time = search rules in
    (same_equal _ _ (sym compared ∙ c.if-not-same.false) ∙ ap decimal time, search rules)

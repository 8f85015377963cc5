-- The test of the digits, as the code makes it.
-- Assumes nothing.
use Rattle.std.proofs.Common.{◌≡◌, ℕ, Bool, true, ◌&&◌, leb, sym, ap₂, ◌∙◌, arith}
use Rattle.logs.proofs.Statuses.{status_digits, no_digits, in_range, digits_told}
use Rattle.logs.proofs.line.three.Goals as goal

test : (a b : ℕ) (x y p q : Bool) → p ≡ x → q ≡ y → (leb 49 a && leb a 53 && x && y) ≡ (leb 49 a && leb a 53 && p && q)
test a b x y p q e f = ap₂ (λ (s t : Bool). leb 49 a && leb a 53 && s && t) (sym e) (sym f)

pub overflow_sub-result : goal.overflow_sub-result
unfolding status_digits
overflow_sub-result c =
    let args = c.args in
    let digits : status_digits args.a args.b args.c ≡ true =
    test args.a args.b _ _ _ _ c.is_digit.ensures c.is_digit-2.ensures ∙ c.if-a-is_digit.true
    in
    omega (arith, in_range args.a args.b args.c digits)

pub returns-then-a-is_digit : goal.returns-then-a-is_digit
unfolding status_digits
returns-then-a-is_digit c =
    let args = c.args in
    digits_told args.a args.b args.c (test args.a args.b _ _ _ _ c.is_digit.ensures c.is_digit-2.ensures ∙ c.if-a-is_digit.true)

pub returns-else-a-is_digit : goal.returns-else-a-is_digit
unfolding status_digits
returns-else-a-is_digit c =
    let args = c.args in
    no_digits args.a args.b args.c (test args.a args.b _ _ _ _ c.is_digit.ensures c.is_digit-2.ensures ∙ c.if-a-is_digit.false)

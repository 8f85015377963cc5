-- Each digit leaves fewer, and the last one is what is left.
use Rattle.std.proofs.Common.{subst, ◌≡◌, ◌∙◌, ◌+◌, ◌-◌, ◌/◌, ◌%◌, ◌^◌, ◌<◌, ◌++◌, ℕ, suc, drop, arith}
use lib.ListN.{set, length-set, length-drop}
use lib.Seq.{take_all}
use Rattle.cells.specs.Decimal.{decimal}
use Rattle.cells.proofs.Digits.{digit_laid, last_laid, fewer}
use Rattle.cells.proofs.decimal.digits.Goals as goal

pub loop-left-preserved : goal.loop-left-preserved
loop-left-preserved c =
    let w = c.loop-left in
    let n = c.args.n in
    let less = fewer w.start w.left w.invariant.2 c.loop-left-test.true in
    let same : w.start ≡ suc (w.start - 1) = omega arith in (
      simp length-set w.invariant.0,
      omega arith,
      subst (λ (k : ℕ). w.left / 10 < 10 ^ k) same less.1,
      subst (λ (k : ℕ). decimal n ≡ decimal (w.left / 10) ++ drop k (set w.all w.start (48 + w.left % 10))) same
          (digit_laid n w.left w.start w.all w.invariant.3 c.loop-left-test.true (omega arith)),
    )

pub returns : goal.returns
returns c =
    let w = c.loop-left in
    c.of.ensures ∙ take_all (20 - w.start) _ (simp (length-drop, length-set) (omega (arith, w.invariant.0))) ∙ last_laid c.args.n w.left w.start w.all w.invariant.3 c.loop-left-test.false (omega (arith, w.invariant.0))

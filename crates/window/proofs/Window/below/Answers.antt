-- The bit below the highest is what is tested, and set.
use Rattle.std.proofs.Common.{arith, rules}
use borrow.Author.Tests.{lt-leb, ne_eqb}
use Rattle.window.specs.Window.{bit, marked}
use Rattle.window.proofs.Bits.{one_moved}
use Rattle.window.proofs.Window.below.Goals as goal

pub returns-then-self-down-eq1 : goal.returns-then-self-down-eq1
unfolding bit
returns-then-self-down-eq1 c = search rules

pub returns : goal.returns
unfolding bit marked
returns c =
    let down = c.args.down in
    simp (c.accepted.ensures, lt-leb 64 down (omega arith), ne_eqb _ _ c.if-self-down-eq1.false, one_moved down (omega arith))

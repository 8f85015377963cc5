-- A nonce is used where bit 0 of the mask orders one.
-- Assumes nothing.
use Rattle.std.proofs.Common.{ap, ℕ, ◌+◌}
use Rattle.scanner.specs.Sign.{advanced}
use Rattle.scanner.specs.InnerSteps.{session_at, advanced_to}
use Rattle.scanner.proofs.States.{odd}
use Rattle.scanner.proofs.session.Session.after.Goals as goal

pub returns : goal.returns
unfolding advanced
returns c =
    ap (λ (n : ℕ). advanced_to (session_at c.args.self.now) c.args.clock.0 (c.args.self.now.next + n)) (odd c.args.self.now.mask)

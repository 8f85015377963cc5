-- s is some, the orders are good, and the next nonce is one.
-- Assumes nothing.
use Rattle.std.proofs.Common.{ap, ◌∙◌, ℕ, ◌&&◌, length}
use mathlib.Core.Path.{ap₂}
use lib.Dec.{leb}
use Rattle.orders.specs.Orders.{orders_of, orders_good}
use Rattle.scanner.specs.State.{good_session}
use Rattle.scanner.proofs.session.Session.is_good.Goals as goal

pub returns : goal.returns
unfolding good_session
returns c =
    let k = c.args.self.now in
    ap (λ t. leb 1 (length k.s.now) && t)
    (ap₂ ◌&&◌ (c.are_good.ensures ∙ ap (λ (h : ℕ). orders_good (orders_of k.mask h k.extra.now 0 0 0)) c.mask.ensures) (ap (leb k.next) c.most_next.ensures))

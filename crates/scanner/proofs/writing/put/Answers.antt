-- The fields of token, code and times, those of the orders, and the nonce, one after the other.
-- Assumes nothing.
use Rattle.std.proofs.Common.{arith}
use Rattle.scanner.specs.InnerSteps.{session_at}
use Rattle.scanner.proofs.Values.{laid_value}
use Rattle.scanner.proofs.writing.put.Goals as goal

pub returns : goal.returns
returns c =
    let k = session_at c.args.session.now in
    let main = c.put_main-after_main in
    let orders = c.put_orders-after_orders in
    let nonce = c.put_nonce in (
      λ m en et el ec. laid_value k.grant m _ _ _ _ en et el ec (rw c.size.ensures at main.ensures.1) orders.ensures.1 nonce.ensures.1
          (omega (arith, c.requires.1, main.ensures.0, orders.ensures.0)) (omega (arith, c.requires.1, main.ensures.0, orders.ensures.0, nonce.ensures.0)),
      omega (arith, main.ensures.0, orders.ensures.0, nonce.ensures.0),
    )

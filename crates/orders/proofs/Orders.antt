-- Laws of good orders.
-- Assumes nothing.
use mathlib.Core.Path.{◌≡◌}
use mathlib.Core.Bool.{true}
use Prim.Native.Nat.{ℕ, ◌^◌, ◌≤◌, ◌<◌}
use native.Mathlib.Omega.{arith}
use borrow.Author.Tests.{ltb-true, ne_eqb}
use lib.Dec.{ltb}
use Rattle.cells.proofs.Tests.{both}
use Rattle.hashes.specs.Hashes.{good_allowed}
use Rattle.names.specs.Extra.{good_extra}
use Rattle.orders.specs.Orders.{Orders, orders_good, limits_of}

module _ (o : Orders) (h : orders_good o ≡ true) where
  parts : ((ltb o.numbers.mask (2 ^ 56) ≡ true) × (good_allowed o.numbers.hashes ≡ true)) × (good_extra o.extra ≡ true)
  unfolding orders_good
  parts =
      let first = both _ _ (both _ _ h).0 in
      (both _ _ first.0, first.1)

  pub good_mask : o.numbers.mask < 2 ^ 56
  good_mask = ltb-true _ _ parts.0.0

  pub good_hashes : good_allowed o.numbers.hashes ≡ true
  good_hashes = parts.0.1

  pub good_extra_lem : good_extra o.extra ≡ true
  good_extra_lem = parts.1

-- the request life: 60 seconds where the orders leave it at 0, else what they name
pub life_default : (o : Orders) → o.numbers.request_life ≡ 0 → (limits_of o).request_life ≡ 60
unfolding limits_of
life_default o e = rw e

pub life_named : (o : Orders) (seconds : ℕ) → 1 ≤ seconds → o.numbers.request_life ≡ seconds → (limits_of o).request_life ≡ seconds
unfolding limits_of
life_named o seconds some e = rw (e, ne_eqb seconds 0 (λ z. omega arith))

-- Orders, the site's settings: document 01, 'Orders, records and sizes', and document 02, K1, for the default request life, and K2, for the
-- allowed hashes.
-- Assumes nothing.
use Rattle.std.specs.Prelude.{◌≡◌, ℕ, ◌^◌, List, Option, Some, None, Bool, true, false, cond, ◌&&◌, leb, ltb, eqb}
use Rattle.hashes.specs.Hashes.{good_allowed}
use Rattle.names.specs.Extra.{good_extra}
use Rattle.orders.specs.declared.Numbers.{Numbers}
use Rattle.names.specs.declared.covered.Covered.{Covered}
use Rattle.orders.specs.declared.Limits.{Limits}
use Rattle.orders.specs.declared.Ordered.{Ordered}

pub record Orders : Type 0 where
  pub numbers : Numbers
  pub extra : List ℕ

abbrev pub orders : Numbers → List ℕ → Orders
orders numbers extra = record { numbers = numbers; extra = extra }

-- from what a call is lent
abbrev pub orders_of : ℕ → ℕ → List ℕ → ℕ → ℕ → ℕ → Orders
orders_of mask hashes extra request_life idle session_life =
    orders (record { mask = mask; hashes = hashes; request_life = request_life; idle = idle; session_life = session_life }) extra

-- seconds
abbrev pub longest_session_life : ℕ
longest_session_life = 2592000

abbrev pub or_default : ℕ → ℕ → ℕ
or_default usual limit = cond (eqb limit 0) usual limit

-- no bit above 55, one of the two hashes or both, good extra names, and a session life of at most 30 days
unfoldable pub orders_good : Orders → Bool
orders_good o =
    ltb o.numbers.mask (2 ^ 56) && good_allowed o.numbers.hashes && good_extra o.extra && leb o.numbers.session_life longest_session_life

unfoldable pub limits_of : Orders → Limits
limits_of o = record {
  request_life = or_default 60 o.numbers.request_life;
  idle = or_default 1800 o.numbers.idle;
  session_life = or_default 1209600 o.numbers.session_life;
}

-- what the code holds of the header fields that orders cover, and of good orders
pub record CoveredBy (o : Orders) (r : Covered) : Type 0 where
  pub mask : r.mask ≡ o.numbers.mask
  pub extra : r.extra.now ≡ o.extra

pub record OrderedBy (o : Orders) (r : Ordered) : Type 0 where
  pub covered : CoveredBy o r.covered
  pub hashes : r.hashes ≡ o.numbers.hashes
  pub limits : r.limits ≡ limits_of o

-- what there is of orders that are good; of others nothing
abbrev pub OrderedIs : Orders → Option Ordered → Type 0
OrderedIs o (Some r) = (orders_good o ≡ true) × OrderedBy o r
OrderedIs o None = orders_good o ≡ false

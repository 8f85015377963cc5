-- What a host lends to judge a request, the table apart: document 01, 'Orders, records and sizes', and document 02, K3, for the method.
-- Assumes nothing.
use Rattle.std.specs.Prelude.{List, ℕ}
use Rattle.orders.specs.Orders.{Orders}

pub record Request : Type 0 where
  pub orders : Orders
  pub clock : ℕ
  pub server_key : List ℕ
  pub value : List ℕ
  pub method : List ℕ
  pub head : List ℕ
  pub aside : List ℕ
  pub path : List ℕ
  pub body : List ℕ
  pub reply : List ℕ

abbrev pub request_of : Orders → ℕ → List ℕ → List ℕ → List ℕ → List ℕ → List ℕ → List ℕ → List ℕ → List ℕ → Request
request_of orders clock server_key value method head aside path body reply = record {
  orders = orders;
  clock = clock;
  server_key = server_key;
  value = value;
  method = method;
  head = head;
  aside = aside;
  path = path;
  body = body;
  reply = reply;
}

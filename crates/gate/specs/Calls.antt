-- What a host lends to set up a session, the table apart: document 01, 'Orders, records and sizes'.
-- Assumes nothing.
use Rattle.std.specs.Prelude.{List, ℕ}
use Rattle.orders.specs.Orders.{Orders}

pub record Setup : Type 0 where
  pub orders : Orders
  pub clock : ℕ
  pub server_key : List ℕ
  pub session_key : List ℕ
  pub iv : List ℕ
  pub session_id : List ℕ
  pub value : List ℕ
  pub reply : List ℕ

abbrev pub setup_of : Orders → ℕ → List ℕ → List ℕ → List ℕ → List ℕ → List ℕ → List ℕ → Setup
setup_of orders clock server_key session_key iv session_id value reply = record {
  orders = orders;
  clock = clock;
  server_key = server_key;
  session_key = session_key;
  iv = iv;
  session_id = session_id;
  value = value;
  reply = reply;
}

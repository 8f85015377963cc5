-- Trying a client: document 02, K11. A setup's reply tells the orders and the session key; a request is held against them as the gate would hold
-- it, up to its signature. Nothing else is lent, and nothing is written.
-- Assumes nothing.
use Rattle.std.specs.Prelude.{Bool, not, ◌&&◌, List, [], ◌∷◌, ◌++◌, ℕ, leb, length}
use Rattle.cells.specs.Runs.{same}
use Rattle.armor.specs.Numerals.{mask_of}
use Rattle.armor.specs.Keys.{key_h, key_ah, key_s, key_iv, key_tag, key_eah, other_key}
use Rattle.armor.specs.Value.{Field, carried}
use Rattle.armor.specs.Fields.{the}
use Rattle.orders.specs.Orders.{Orders, orders_of, orders_good}
use Rattle.reply.specs.LaidOut.{laid_out}
use Rattle.stages.specs.Request.{Request, request_of}
use Rattle.stages.specs.Checks.{Check, check, first}
use Rattle.stages.specs.Parts.{fields_of, signature_of, code_under, reading_part}
use Rattle.gate.specs.Sizes.{brought_fits}

-- what is lent: the reply to a setup, and the request that a client made of it
pub record Trial : Type 0 where
  pub setup_reply : List ℕ
  pub value : List ℕ
  pub method : List ℕ
  pub head : List ℕ
  pub aside : List ℕ
  pub path : List ℕ
  pub body : List ℕ

abbrev pub trial_of : List ℕ → List ℕ → List ℕ → List ℕ → List ℕ → List ℕ → List ℕ → Trial
trial_of setup_reply value method head aside path body = record {
  setup_reply = setup_reply;
  value = value;
  method = method;
  head = head;
  aside = aside;
  path = path;
  body = body;
}

-- what the reply carries; kh, the session key, is the key without a rule
unfoldable pub granted : Trial → List Field
granted t = carried t.setup_reply

unfoldable pub key_in : Trial → List ℕ
key_in t = the other_key (granted t)

-- the orders that give its h, ah and eah: that hash alone, and each limit at its default
unfoldable pub orders_in : Trial → Orders
orders_in t = orders_of (mask_of (the key_ah (granted t))) (mask_of (the key_h (granted t))) (the key_eah (granted t)) 0 0 0

-- the request under those orders. What is not lent is not looked at
unfoldable pub request_in : Trial → Request
request_in t = request_of (orders_in t) 0 [] t.value t.method t.head t.aside t.path t.body []

unfoldable pub trial_fits : Trial → Bool
trial_fits t = leb (length t.setup_reply) 459 && brought_fits (request_in t)

-- 1 and 23: sizes, and a reply that is laid out as 01 says and that some orders give
unfoldable pub reply_part : Trial → List Check
reply_part t =
    check 1 (not (trial_fits t))
    ∷ check 23 (not (laid_out t.setup_reply && orders_good (orders_in t)))
    ∷ []

-- s, iv and tag are the same
unfoldable pub same_token : List Field → List Field → Bool
same_token fs gs = same (the key_s fs) (the key_s gs) && (same (the key_iv fs) (the key_iv gs) && same (the key_tag fs) (the key_tag gs))

-- 8 against the reply, and 11: the token that it brought, and a signature under its key
unfoldable pub grant_part : Trial → List Check
grant_part t =
    check 8 (not (same_token (fields_of (request_in t)) (granted t)))
    ∷ check 11 (not (same (signature_of (request_in t)) (code_under (key_in t) (request_in t))))
    ∷ []

-- 1, 23, 4 to 8, 11
unfoldable pub trial_checks : Trial → List Check
trial_checks t = reply_part t ++ (reading_part (request_in t) ++ grant_part t)

-- 0 for fit, and otherwise the first rule that is broken
unfoldable pub tried : Trial → ℕ
tried t = first (trial_checks t)

-- What a scanner keeps of its session, and the bytes that a host lends for it: document 02, K14.
-- Assumes nothing.
use Rattle.std.specs.Prelude.{ℕ, ◌+◌, Bool, cond, ◌&&◌, List, [], ◌∷◌, ◌++◌, eqb, leb, length, get_or, replicate}
use Rattle.cells.specs.Runs.{fronted, part, same}
use Rattle.cells.specs.Numbers.{bytes_of, number}
use Rattle.hashes.specs.Hashes.{hash_mask, named}
use Rattle.orders.specs.Orders.{Orders, orders_of, orders_good}
use Rattle.signed.specs.SignedText.{orders_nonce}
use Rattle.scanner.specs.Requests.{Grant}

-- bytes in a state
abbrev pub state_size : ℕ
state_size = 329

-- what the setup's reply brought, the time of the last request, which at first is that of the setup, and the next nonce
pub record Session : Type 0 where
  pub grant : Grant
  pub last_time : ℕ
  pub next : ℕ

-- ah, h, the lengths of s and eah, iv, tag, kh, s and eah; numbers highest byte first
unfoldable pub grant_bytes : Grant → List ℕ
grant_bytes g =
    bytes_of 8 g.mask
    ++ ((hash_mask g.hash ∷ length g.s ∷ length g.extra ∷ [])
    ++ (g.iv ++ (g.tag ++ (g.key ++ (g.s ++ g.extra)))))

-- the last time, the next nonce, and those
unfoldable pub session_bytes : Session → List ℕ
session_bytes k = bytes_of 4 k.last_time ++ (bytes_of 8 k.next ++ grant_bytes k.grant)

-- no session is zeros, and zeros stand after a session's bytes
abbrev pub no_session : List ℕ
no_session = replicate state_size 0

unfoldable pub state_of : Session → List ℕ
state_of k = fronted (session_bytes k) no_session

-- what a state tells
unfoldable pub session_in : List ℕ → Session
session_in state =
    let s_len = get_or state 21 0 in
    record {
      grant = record {
        s = part state 83 s_len;
        iv = part state 23 12;
        tag = part state 35 16;
        key = part state 51 32;
        hash = named (get_or state 20 0);
        mask = number (part state 12 8);
        extra = part state (83 + s_len) (get_or state 22 0);
      };
      last_time = number (part state 0 4);
      next = number (part state 4 8);
    }

-- the orders that give a session's h, ah and eah: that hash alone, and each limit at its default
abbrev pub orders_for : Grant → Orders
orders_for g = orders_of g.mask (hash_mask g.hash) g.extra 0 0 0

-- a nonce is left up to the last one, and after it none; without nonces the first stays the next
abbrev pub most_next : ℕ → ℕ
most_next mask = cond (orders_nonce mask) 4294967296 0

unfoldable pub good_session : Session → Bool
good_session k = leb 1 (length k.grant.s) && (orders_good (orders_for k.grant) && leb k.next (most_next k.grant.mask))

-- a state that one of the calls has left: it is what would be written of what it tells, and that is a session. `left_exactly` of
-- crates/demands/proofs/Scanner/States.antt says that these are the states that calls leave
unfoldable pub in_session : List ℕ → Bool
in_session state =
    eqb (length state) state_size
    && ((leb (get_or state 21 0) 118 && leb (get_or state 22 0) 128)
    && (good_session (session_in state)
    && same state (state_of (session_in state))))

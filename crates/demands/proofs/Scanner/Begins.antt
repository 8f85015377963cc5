-- A scanner takes a reply that some setup writes, and keeps what it brings.
-- Assumes nothing.
use mathlib.Core.Path.{◌≡◌, refl, sym, ap, ◌∙◌}
use mathlib.Core.Bool.{true}
use mathlib.Core.List.{List, []}
use Prim.Native.Nat.{ℕ, ◌<◌, ◌^◌}
use native.Mathlib.Omega.{arith}
use borrow.Author.Tests.{eq-eqb, le-leb}
use lib.ListN.{length}
use Rattle.cells.proofs.Tests.{both}
use Rattle.hashes.specs.Hashes.{hash_mask}
use Rattle.hashes.proofs.Hashes.{mask_named, mask_small}
use Rattle.armor.specs.Numerals.{mask_bytes, mask_of}
use Rattle.armor.specs.Value.{carried}
use Rattle.armor.proofs.Numerals.{mask_of_mask_bytes}
use Rattle.orders.specs.Orders.{orders_good}
use Rattle.orders.proofs.Orders.{good_mask}
use Rattle.reply.specs.LaidOut.{laid_out, orders_told, is_reply}
use Rattle.scanner.specs.Requests.{Grant}
use Rattle.scanner.specs.State.{state_size, Session, state_of, orders_for, most_next, good_session}
use Rattle.scanner.specs.Begin.{Answer, grant_in, begun_with, begin_number, answer, begun}
use Rattle.scanner.proofs.Calls.{Kept}
use Rattle.gate.specs.Trial.{Trial, trial_of, granted, orders_in}
use Rattle.demands.specs.Trial.{SetupReply}
use Rattle.demands.proofs.Trial.Replies as Replies

-- a reply that is tried, whatever the request
abbrev tried : List ℕ → Trial
tried text = trial_of text [] [] [] [] [] []

-- some setup writes each reply that a scanner takes
pub some_setup : (text : List ℕ) → is_reply text ≡ true → SetupReply text
unfolding is_reply orders_told orders_in granted
some_setup text e =
    let parts = both (laid_out text) (orders_good (orders_in (tried text))) e in Replies.some_setup (tried text) parts.0 parts.1

module _ (text : List ℕ) (r : SetupReply text) where
  abbrev pub brought : Grant
  brought = record { s = r.s; iv = r.iv; tag = r.tag; key = r.key; hash = r.hash; mask = r.orders.numbers.mask; extra = r.orders.extra }

  is_reply_lem : is_reply text ≡ true
  unfolding is_reply orders_told orders_in granted
  is_reply_lem = rw (Replies.laid (tried text) r) (Replies.orders_pass (tried text) r)

  orders_pass : orders_good (orders_for brought) ≡ true
  orders_pass = ap orders_good (sym (Replies.orders_told_lem (tried text) r)) ∙ Replies.orders_pass (tried text) r

  hash_read : mask_of (mask_bytes (hash_mask r.hash)) ≡ hash_mask r.hash
  hash_read = mask_of_mask_bytes (hash_mask r.hash) (omega (arith, mask_small r.hash))

  mask_read : mask_of (mask_bytes r.orders.numbers.mask) ≡ r.orders.numbers.mask
  mask_read = mask_of_mask_bytes r.orders.numbers.mask (omega (arith, good_mask r.orders r.good))

  grant_is : grant_in (carried text) ≡ brought
  unfolding grant_in granted
  grant_is =
      let h = Replies.holds (tried text) r in
      rw (h.s_is, h.iv_is, h.tag_is, h.key_is, h.hash_is, h.mask_is, h.extra_is, hash_read, mask_read, mask_named r.hash) refl

  abbrev pub at_first : ℕ → Session
  at_first time = record { grant = brought; last_time = time; next = 0 }

  first_good : (time : ℕ) → good_session (at_first time) ≡ true
  unfolding good_session
  first_good time = rw (le-leb 1 (length r.s) r.s_some, orders_pass, le-leb 0 (most_next r.orders.numbers.mask) (omega arith)) refl

  module _ (time : ℕ) (room : List ℕ) (long : length room ≡ state_size) where
    pub begins : begun time text room ≡ answer 0 (state_of (at_first time))
    unfolding begun begin_number begun_with
    begins = rw (eq-eqb (length room) state_size long, le-leb (length text) 459 (Replies.reply_short (tried text) r), is_reply_lem, grant_is) refl

    pub begins_kept : time < 2 ^ 32 → Kept (at_first time) (begun time text room).state
    begins_kept small = record {
      is = ap (λ (a : Answer). a.state) begins;
      sized = record { s = r.s_fits; iv = r.iv_fits; tag = r.tag_fits; key = r.key_fits; last_time = small };
      good = first_good time;
    }

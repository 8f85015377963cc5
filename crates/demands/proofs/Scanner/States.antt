-- The states that tell of a session are those that calls leave.
-- Assumes nothing.
use mathlib.Core.Path.{◌≡◌, refl, sym, ap, subst, ◌∙◌}
use mathlib.Core.Bool.{true}
use mathlib.Core.List.{List, []}
use mathlib.Core.Logic.{◌↔◌}
use Prim.Native.Nat.{ℕ, zero, suc, ◌+◌, ◌≤◌}
use native.Mathlib.Omega.{arith}
use borrow.Author.Tests.{le-leb}
use lib.ListN.{length, get_or, replicate, length-replicate}
use Rattle.cells.specs.Runs.{Bytes}
use Rattle.cells.specs.Spans.{all}
use Rattle.cells.specs.Text.{codes}
use Rattle.cells.proofs.Cuts.{bytes_part}
use Rattle.cells.proofs.Tests.{tested}
use Rattle.hashes.specs.declared.Hash.{Hash}
use Rattle.hashes.specs.declared.Hash.TheVariants.{Sha256, Sha512}
use Rattle.hashes.specs.Hashes.{hash_mask, has}
use Rattle.names.specs.Names.{has_byte, token_byte, is_token}
use Rattle.names.specs.Covered.{covered_names}
use Rattle.lines.proofs.Lines.{lines_none, good_none}
use Rattle.lines.proofs.Notes.{unrepeated}
use Rattle.signed.specs.SignedText.{orders_nonce}
use Rattle.reply.specs.Replies.{setup_reply}
use Rattle.scanner.specs.Requests.{Grant}
use Rattle.scanner.specs.State.{state_size, Session, no_session, state_of, session_in, orders_for, most_next, good_session, in_session}
use Rattle.scanner.specs.Begin.{Answer}
use Rattle.scanner.specs.Sign.{Draft, draft_of, draft_fits, draft_good, advanced, signed}
use Rattle.scanner.proofs.States.{Good, good, next_fits}
use Rattle.scanner.proofs.Calls.{begun_passed, makes, Kept, in_kept, kept_told, kept_in, kept_signed}
use Rattle.demands.specs.Trial.{SetupReply}
use Rattle.demands.specs.Scanner.{Left, beginning, signing}
use Rattle.demands.proofs.Scanner.Begins.{some_setup, begins, begins_kept}

-- a request that every session makes that has a nonce left
abbrev pub plain : ℕ → Draft
plain clock = draft_of clock (codes "GET") [] (codes "/") []

abbrev pub buffer : List ℕ
buffer = replicate 4096 0

pub plain_made : {k : Session} {state : List ℕ} → Kept k state → k.next ≤ 4294967295 → (clock : ℕ) → (signed (plain clock) state buffer).number ≡ 0
unfolding draft_fits draft_good codes is_token all token_byte has_byte
plain_made {k} {state} kept left clock =
    makes (plain clock) state buffer (kept_in kept) (rw (kept_told kept) left) refl
    (rw (good_none, lines_none, unrepeated (covered_names (session_in state).grant.mask (session_in state).grant.extra)) refl)

-- a state that calls leave is written of a session
left_kept : {state : List ℕ} → Left state → (k : Session) × Kept k state
left_kept (beginning time reply room small e) =
    let p = begun_passed time reply room e in (_, begins_kept reply (some_setup reply p.1) time room p.0 small)
left_kept (signing d state out l small e) = let k = left_kept l in (_, kept_signed k.1 d out small e)

-- a state that tells of a session
module _ (state : List ℕ) (are : Bytes state) (e : in_session state ≡ true) where
  abbrev k : Session
  k = session_in state

  abbrev g : Grant
  g = k.grant

  kept : Kept k state
  kept = in_kept state are e

  told : Good k
  told = good k kept.good

  own : (h : Hash) → has h (hash_mask h) ≡ true
  own Sha256 = refl
  own Sha512 = refl

  -- the reply that brings what it has
  abbrev text : List ℕ
  text = setup_reply g.s g.iv g.tag g.key g.hash g.mask g.extra

  reply : SetupReply text
  unfolding session_in
  reply = record {
    s = g.s;
    iv = g.iv;
    tag = g.tag;
    key = g.key;
    hash = g.hash;
    orders = orders_for g;
    is = refl;
    good = told.orders;
    allowed = own g.hash;
    s_some = told.some;
    s_fits = kept.sized.s;
    iv_fits = kept.sized.iv;
    tag_fits = kept.sized.tag;
    key_fits = kept.sized.key;
    of_bytes = (
      bytes_part state 83 (get_or state 21 0) are,
      bytes_part state 23 12 are,
      bytes_part state 35 16 are,
      bytes_part state 51 32 are,
      bytes_part state (83 + get_or state 21 0) (get_or state 22 0) are,
    );
  }

  -- the session when so many nonces were used
  abbrev after : ℕ → Session
  after n = record { grant = g; last_time = k.last_time; next = n }

  after_kept : (n : ℕ) → n ≤ k.next → Kept (after n) (state_of (after n))
  unfolding good_session
  after_kept n h = record {
    is = refl;
    sized = record { s = kept.sized.s; iv = kept.sized.iv; tag = kept.sized.tag; key = kept.sized.key; last_time = kept.sized.last_time };
    good = rw (le-leb 1 (length g.s) told.some, told.orders, le-leb n (most_next g.mask) (omega (arith, told.next))) refl;
  }

  -- nonces are ordered where one was used
  ordered : 1 ≤ k.next → orders_nonce g.mask ≡ true
  ordered h = tested (orders_nonce g.mask) (λ o. o) (λ o. absurd (omega (arith, rw o at told.next)))

  reached : (n : ℕ) → n ≤ k.next → Left (state_of (after n))
  unfolding advanced reply
  reached zero h =
      let start = begins text reply k.last_time no_session (length-replicate {A = ℕ} state_size 0) in
      subst (λ (a : Answer). Left a.state) start (beginning k.last_time text no_session kept.sized.last_time (ap (λ (a : Answer). a.number) start))
  reached (suc n) h =
      let earlier = after_kept n (omega arith) in
      let one = plain_made earlier (omega (arith, next_fits k kept.good)) k.last_time in
      let next : advanced (after n) k.last_time ≡ after (suc n) = rw (ordered (omega arith)) (ap after (omega arith)) in
      subst (λ (x : List ℕ). Left x) ((kept_signed earlier (plain k.last_time) buffer kept.sized.last_time one).is ∙ ap state_of next)
      (signing (plain k.last_time) (state_of (after n)) buffer (reached n (omega arith)) kept.sized.last_time one)

  told_left : Left state
  told_left = subst (λ (x : List ℕ). Left x) (sym kept.is) (reached k.next (omega arith))

pub left_exactly : (state : List ℕ) → Bytes state → (in_session state ≡ true) ↔ Left state
left_exactly state are = (told_left state are, λ l. kept_in (left_kept l).1)

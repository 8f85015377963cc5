-- A session that is written as a state is told by it again, and a state that tells one is what would be written of it.
-- Assumes nothing.
use mathlib.Core.Path.{◌≡◌, refl, sym, ap, ◌∙◌}
use mathlib.Core.Bool.{Bool, true, false, cond, ◌&&◌}
use mathlib.Core.List.{List, [], ◌∷◌, ◌++◌, append_assoc}
use Prim.Native.Nat.{ℕ, zero, suc, ◌+◌, ◌%◌, ◌≤◌, ◌<◌, ◌^◌}
use native.Mathlib.Nat.{mod-lt}
use native.Mathlib.Omega.{arith}
use borrow.Author.Tests.{eqb-true, eq-eqb, leb-true, le-leb}
use lib.Dec.{eqb, leb}
use lib.ListN.{length, get_or, take, drop, length-append, length-replicate}
use lib.Seq.{take_at, drop_at, drop-drop, get_or-drop}
use Rattle.cells.specs.Runs.{Bytes, spliced, fronted, part}
use Rattle.cells.specs.Numbers.{bytes_of}
use Rattle.cells.specs.InnerLaid.{Laid}
use Rattle.cells.proofs.Numbers.{length_bytes_of, number_of, number_below}
use Rattle.cells.proofs.Runs.{length_fronted, length_part, spliced_front, joined}
use Rattle.cells.proofs.Cuts.{bytes_part}
use Rattle.cells.proofs.Equality.{same_equal, same_self}
use Rattle.cells.proofs.Tests.{both}
use Rattle.hashes.specs.Hashes.{hash_mask}
use Rattle.hashes.proofs.Hashes.{mask_named}
use Rattle.names.specs.Extra.{good_extra}
use Rattle.names.proofs.Sizes.{short_extra}
use Rattle.orders.specs.Orders.{orders_good}
use Rattle.orders.proofs.Orders.{good_mask, good_extra_lem}
use Rattle.signed.specs.SignedText.{orders_nonce}
use Rattle.scanner.specs.Requests.{Grant}
use Rattle.scanner.specs.State.{state_size, Session, grant_bytes, session_bytes, no_session, state_of, session_in, orders_for, most_next, good_session, in_session}

-- what a state can hold
pub record Sized (k : Session) : Type 0 where
  pub s : length k.grant.s ≤ 118
  pub iv : length k.grant.iv ≡ 12
  pub tag : length k.grant.tag ≡ 16
  pub key : length k.grant.key ≡ 32
  pub last_time : k.last_time < 2 ^ 32

-- what is asked of a session
pub record Good (k : Session) : Type 0 where
  pub some : 1 ≤ length k.grant.s
  pub orders : orders_good (orders_for k.grant) ≡ true
  pub next : k.next ≤ most_next k.grant.mask

most_next_lem : (ordered : Bool) → cond ordered 4294967296 0 ≤ 4294967296
most_next_lem true = omega arith
most_next_lem false = omega arith

module _ (k : Session) (e : good_session k ≡ true) where
  pub good : Good k
  unfolding good_session
  good =
      let p = both (leb 1 (length k.grant.s)) _ e in
      let q = both (orders_good (orders_for k.grant)) _ p.1 in
      record { some = leb-true _ _ p.0; orders = q.0; next = leb-true _ _ q.1 }

  pub extra_good : good_extra k.grant.extra ≡ true
  extra_good = good_extra_lem (orders_for k.grant) good.orders

  pub extra_short : length k.grant.extra ≤ 128
  extra_short = short_extra k.grant.extra extra_good

  pub mask_fits : k.grant.mask < 2 ^ 56
  mask_fits = good_mask (orders_for k.grant) good.orders

  pub next_fits : k.next ≤ 4294967296
  next_fits = omega (arith, good.next, most_next_lem (orders_nonce k.grant.mask))

-- a run at a place, and what stands after it
step : (xs a r : List ℕ) (at n : ℕ) → drop at xs ≡ a ++ r → length a ≡ n → (part xs at n ≡ a) × (drop (at + n) xs ≡ r)
step xs a r at n e long = (ap (take n) e ∙ take_at a r n long, sym (drop-drop n at xs) ∙ ap (drop n) e ∙ drop_at a r n long)

-- where the parts of a session's bytes stand
pub record Parts (k : Session) (state : List ℕ) : Type 0 where
  pub last_time : part state 0 4 ≡ bytes_of 4 k.last_time
  pub next : part state 4 8 ≡ bytes_of 8 k.next
  pub mask : part state 12 8 ≡ bytes_of 8 k.grant.mask
  pub hash : get_or state 20 0 ≡ hash_mask k.grant.hash
  pub s_size : get_or state 21 0 ≡ length k.grant.s
  pub extra_size : get_or state 22 0 ≡ length k.grant.extra
  pub iv : part state 23 12 ≡ k.grant.iv
  pub tag : part state 35 16 ≡ k.grant.tag
  pub key : part state 51 32 ≡ k.grant.key
  pub s : part state 83 (length k.grant.s) ≡ k.grant.s
  pub extra : part state (83 + length k.grant.s) (length k.grant.extra) ≡ k.grant.extra

module _ (k : Session) (z : Sized k) (rest : List ℕ) where
  abbrev g : Grant
  g = k.grant

  abbrev state : List ℕ
  state = session_bytes k ++ rest

  abbrev sizes : List ℕ
  sizes = hash_mask g.hash ∷ length g.s ∷ length g.extra ∷ []

  apart : state
      ≡ bytes_of 4 k.last_time
      ++ (bytes_of 8 k.next ++ (bytes_of 8 g.mask ++ (sizes ++ (g.iv ++ (g.tag ++ (g.key ++ (g.s ++ (g.extra ++ rest))))))))
  unfolding session_bytes grant_bytes
  apart = simp append_assoc

  -- whatever stands after them
  parts : Parts k state
  parts =
      let time = step state (bytes_of 4 k.last_time) _ 0 4 apart (length_bytes_of 4 k.last_time) in
      let next = step state (bytes_of 8 k.next) _ 4 8 time.1 (length_bytes_of 8 k.next) in
      let mask = step state (bytes_of 8 g.mask) _ 12 8 next.1 (length_bytes_of 8 g.mask) in
      let small = step state sizes _ 20 3 mask.1 refl in
      let iv = step state g.iv _ 23 12 small.1 z.iv in
      let tag = step state g.tag _ 35 16 iv.1 z.tag in
      let key = step state g.key _ 51 32 tag.1 z.key in
      let s = step state g.s _ 83 (length g.s) key.1 refl in
      let size : (i : ℕ) → get_or state (20 + i) 0 ≡ get_or (sizes ++ (g.iv ++ (g.tag ++ (g.key ++ (g.s ++ (g.extra ++ rest)))))) i 0 =
      λ i. sym (get_or-drop 20 state i 0) ∙ ap (λ (l : List ℕ). get_or l i 0) mask.1 in
      record {
        last_time = time.0;
        next = next.0;
        mask = mask.0;
        hash = size 0;
        s_size = size 1;
        extra_size = size 2;
        iv = iv.0;
        tag = tag.0;
        key = key.0;
        s = s.0;
        extra = (step state g.extra rest (83 + length g.s) (length g.extra) s.1 refl).0;
      }

  pub told : good_session k ≡ true → session_in state ≡ k
  unfolding session_in
  told e =
      let p = parts in
      rw (
        p.s_size,
        p.s,
        p.iv,
        p.tag,
        p.key,
        p.hash,
        mask_named g.hash,
        p.mask,
        number_of 8 g.mask (omega (arith, mask_fits k e)),
        p.extra_size,
        p.extra,
        p.last_time,
        number_of 4 k.last_time z.last_time,
        p.next,
        number_of 8 k.next (omega (arith, next_fits k e)),
      ) refl

pub told_again : (k : Session) → Sized k → good_session k ≡ true → session_in (state_of k) ≡ k
unfolding state_of fronted
told_again k z e = told k z _ e

-- how long its bytes are
pub length_bytes : (k : Session) → Sized k → length (session_bytes k) ≡ 83 + length k.grant.s + length k.grant.extra
unfolding session_bytes grant_bytes
length_bytes k z =
    simp (length-append, length_bytes_of) (omega (arith, z.iv, z.tag, z.key))

pub length_state : (k : Session) → Sized k → good_session k ≡ true → length (state_of k) ≡ state_size
unfolding state_of
length_state k z e =
    let room = length-replicate {A = ℕ} state_size 0 in
    length_fronted (session_bytes k) no_session (omega (arith, room, length_bytes k z, z.s, extra_short k e)) ∙ room

-- it tells of a session
pub is_in_session : (k : Session) → Sized k → good_session k ≡ true → in_session (state_of k) ≡ true
unfolding in_session state_of fronted
is_in_session k z e =
    let p = parts k z (drop (length (session_bytes k)) no_session) in
    rw (
      told_again k z e,
      e,
      same_self (state_of k),
      eq-eqb (length (state_of k)) state_size (length_state k z e),
      p.s_size,
      p.extra_size,
      le-leb (length k.grant.s) 118 z.s,
      le-leb (length k.grant.extra) 128 (extra_short k e),
    ) refl

-- a state that tells of a session
module _ (state : List ℕ) (h : in_session state ≡ true) where
  pub record Tells : Type 0 where
    pub long : length state ≡ state_size
    pub s_fits : get_or state 21 0 ≤ 118
    pub extra_fits : get_or state 22 0 ≤ 128
    pub good : good_session (session_in state) ≡ true
    pub written : state ≡ state_of (session_in state)

  pub tells : Tells
  unfolding in_session
  tells =
      let p = both (eqb (length state) state_size) _ h in
      let q = both (leb (get_or state 21 0) 118 && leb (get_or state 22 0) 128) _ p.1 in
      let sizes = both (leb (get_or state 21 0) 118) (leb (get_or state 22 0) 128) q.0 in
      let r = both (good_session (session_in state)) _ q.1 in
      record {
        long = eqb-true (length state) state_size p.0;
        s_fits = leb-true (get_or state 21 0) 118 sizes.0;
        extra_fits = leb-true (get_or state 22 0) 128 sizes.1;
        good = r.0;
        written = same_equal state (state_of (session_in state)) r.1;
      }

  -- of which it holds no more than it can
  pub sized : Bytes state → Sized (session_in state)
  unfolding session_in
  sized are =
      let t = tells in
      record {
        s = omega (arith, length_part state 83 (get_or state 21 0) (omega (arith, t.long, t.s_fits)), t.s_fits);
        iv = length_part state 23 12 (omega (arith, t.long));
        tag = length_part state 35 16 (omega (arith, t.long));
        key = length_part state 51 32 (omega (arith, t.long));
        last_time = rw (length_part state 0 4 (omega (arith, t.long))) at (number_below (part state 0 4) (bytes_part state 0 4 are));
      }

-- another last time and next nonce, written over a session's own
pub rewritten : (k : Session) (time next : ℕ) → 12 ≤ length (state_of k)
    → spliced (spliced (state_of k) 0 (bytes_of 4 time)) 4 (bytes_of 8 next) ≡ state_of (record { grant = k.grant; last_time = time; next = next })
unfolding state_of fronted session_bytes
rewritten k time next room =
    let old = bytes_of 4 k.last_time ++ bytes_of 8 k.next in
    let new = bytes_of 4 time ++ bytes_of 8 next in
    let twelve : (a b : ℕ) → length (bytes_of 4 a ++ bytes_of 8 b) ≡ 12 = λ a b. simp (length-append, length_bytes_of) in
    let rest = grant_bytes k.grant ++ drop (length (session_bytes k)) no_session in
    let state : state_of k ≡ old ++ rest = simp append_assoc in
    let as_long : length (bytes_of 4 time ++ (bytes_of 8 next ++ grant_bytes k.grant)) ≡ length (session_bytes k) = simp (length-append, length_bytes_of) in
    joined (state_of k) (bytes_of 4 time) (bytes_of 8 next) 0 4 (omega (arith, length_bytes_of 4 time, length_bytes_of 8 next)) (omega (arith, length_bytes_of 4 time))
    ∙ spliced_front (state_of k) new
    ∙ rw (twelve time next, state, drop_at old rest 12 (twelve k.last_time k.next), as_long) (simp append_assoc)

-- bit 0 of a mask, as a number
pub odd : (m : ℕ) → m % 2 ≡ cond (orders_nonce m) 1 0
odd m = by (m % 2) (mod-lt m (omega arith))
  where
    by : (b : ℕ) → b < 2 → b ≡ cond (eqb b 1) 1 0
    by zero h = refl
    by (suc zero) h = refl
    by (suc (suc b)) h = absurd (omega arith)

-- a session's parts laid side by side over zeros
over_zeros : {out left text : List ℕ} {end : ℕ} → out ≡ no_session → Laid out left 0 end text → left ≡ fronted text no_session
over_zeros {text = text} e p = p.is ∙ ap (λ (l : List ℕ). spliced l 0 text) e ∙ spliced_front no_session text

pub laid_session : (k : Session) {out left : List ℕ} {end : ℕ} → out ≡ no_session
    → let g = k.grant in
    Laid out left 0 end
    ((((((((bytes_of 4 k.last_time ++ bytes_of 8 k.next) ++ bytes_of 8 g.mask)
    ++ (hash_mask g.hash ∷ length g.s ∷ length g.extra ∷ [])) ++ g.iv) ++ g.tag) ++ g.key) ++ g.s) ++ g.extra)
    → left ≡ state_of k
unfolding state_of session_bytes grant_bytes
laid_session k e p = over_zeros e p ∙ ap (λ (l : List ℕ). fronted l no_session) (simp append_assoc)

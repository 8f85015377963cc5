-- What the code reads of a state is the session that it tells of.
-- Assumes nothing.
use mathlib.Core.Path.{◌≡◌, refl, ◌∙◌}
use mathlib.Core.Bool.{Bool, ◌&&◌}
use mathlib.Core.List.{List}
use Prim.Native.Nat.{ℕ, ◌+◌, ◌-◌, ◌≤◌}
use native.Mathlib.Omega.{arith}
use lib.ListN.{length, get_or}
use Rattle.cells.specs.Runs.{part, cut}
use Rattle.cells.specs.Numbers.{number}
use Rattle.cells.proofs.Cuts.{length_cut}
use borrow.Author.Tests.{eq-eqb, le-leb}
use Rattle.cells.specs.Runs.{same}
use Rattle.hashes.specs.declared.Hash.{Hash}
use Rattle.hashes.specs.Hashes.{named}
use Rattle.scanner.specs.State.{state_size, Session, state_of, session_in, good_session, in_session}
use Rattle.scanner.specs.InnerSteps.{session_of}

-- a part by its start and its end
pub long_cut : (xs : List ℕ) (a n : ℕ) → a + n ≤ length xs → length (cut xs a (a + n)) ≡ n
long_cut xs a n h = let e : a + n - a ≡ n = omega arith in length_cut xs a (a + n) h ∙ e

-- the session that a state's numbers and parts make up
pub session_read : (state : List ℕ) → let s_len = get_or state 21 0 in let extra_len = get_or state 22 0 in
    session_of (number (part state 0 4)) (number (part state 4 8)) (number (part state 12 8)) (named (get_or state 20 0)) (part state 23 12) (part state 35 16)
    (part state 51 32) (cut state 83 (83 + s_len)) (cut state (83 + s_len) (83 + s_len + extra_len))
    ≡ session_in state
unfolding session_in
session_read state =
    let s_len = get_or state 21 0 in
    let extra_len = get_or state 22 0 in
    let s : 83 + s_len - 83 ≡ s_len = omega arith in
    let extra : 83 + s_len + extra_len - (83 + s_len) ≡ extra_len = omega arith in
    rw (s, extra) refl

pub session_made : (state : List ℕ) {time next mask n : ℕ} {hash : Hash} {iv tag key : List ℕ} → time ≡ number (part state 0 4) → next ≡ number (part state 4 8)
    → mask ≡ number (part state 12 8) → hash ≡ named n → n ≡ get_or state 20 0 → iv ≡ part state 23 12 → tag ≡ part state 35 16 → key ≡ part state 51 32
    → session_of time next mask hash iv tag key (cut state 83 (83 + get_or state 21 0))
    (cut state (83 + get_or state 21 0) (83 + get_or state 21 0 + get_or state 22 0))
    ≡ session_in state
session_made state time next mask hash n iv tag key = rw (time, next, mask, hash, n, iv, tag, key) (session_read state)

-- whether a state tells of a session, by what is found of what it tells
pub told_in : (state : List ℕ) (k : Session) → k ≡ session_in state → length state ≡ state_size → get_or state 21 0 ≤ 118 → get_or state 22 0 ≤ 128
    → {good written : Bool} → good ≡ good_session k → written ≡ same state (state_of k) → in_session state ≡ (good && written)
unfolding in_session
told_in state k e long s extra good written =
    rw (eq-eqb (length state) state_size long, le-leb (get_or state 21 0) 118 s, le-leb (get_or state 22 0) 128 extra, good, written, e) refl

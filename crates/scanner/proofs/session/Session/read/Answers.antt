-- A state of another size, or with lengths that it has no room for, tells of none, and so does one that would not be written of what it tells.
-- Assumes nothing.
use Rattle.std.proofs.Common.{◌≡◌, refl, ap, ◌∙◌, arith, ℕ, List, ◌+◌, length, get_or, take, drop}
use lib.Seq.{take-take}
use borrow.Author.Tests.{eq-eqb, ne_eqb, le-leb, lt-leb}
use Rattle.scanner.specs.State.{in_session}
use Rattle.cells.proofs.Runs.{length_part}
use Rattle.scanner.proofs.Kept.{long_cut, session_made, told_in}
use Rattle.scanner.proofs.session.Session.read.Goals as goal
use Rattle.scanner.proofs.session.Session.read.Goals.{then-state-ne-SIZE-via-then-state-ne-SIZE, then-state-ne-SIZE-via-else-state-ne-SIZE+then-state-gt118, then-state-ne-SIZE-via-else-state-ne-SIZE+else-state-gt118+then-state-gt128}

pub returns-then-state-ne-SIZE : goal.returns-then-state-ne-SIZE
unfolding in_session
returns-then-state-ne-SIZE c = elim c.then-state-ne-SIZE.branch [
  | then-state-ne-SIZE-via-then-state-ne-SIZE w ↦ rw (ne_eqb _ _ w.if-state-ne-SIZE.true) refl
  | then-state-ne-SIZE-via-else-state-ne-SIZE+then-state-gt118 w ↦ rw (eq-eqb _ _ w.if-state-ne-SIZE.false, lt-leb _ _ w.if-state-gt118.true) refl
  | then-state-ne-SIZE-via-else-state-ne-SIZE+else-state-gt118+then-state-gt128 w ↦
      rw (eq-eqb _ _ w.if-state-ne-SIZE.false, le-leb _ _ w.if-state-gt118.false, lt-leb _ _ w.if-state-gt128.true) refl
]

-- an array that was a part
chunk_is : (xs ys : List ℕ) (n : ℕ) → ys ≡ take n (take n xs) → ys ≡ take n xs
chunk_is xs ys n e = e ∙ take-take n n xs (omega arith)

pub invariant_of-session : goal.invariant_of-session
invariant_of-session c =
    let state = c.args.state.now in
    let long = c.if-state-ne-SIZE.false in
    let key = chunk_is (drop 51 state) c.unwrap.result.now 32 (rw c.unwrap.ensures at c.first_chunk.ensures.cases).same in
    record {
      iv_size = length_part state 23 12 (omega (arith, long));
      tag_size = length_part state 35 16 (omega (arith, long));
      key_size = ap length key ∙ length_part state 51 32 (omega (arith, long));
      s_fits = omega (arith, long_cut state 83 (get_or state 21 0) (omega (arith, long, c.if-state-gt118.false)), c.if-state-gt118.false);
      extra_fits =
          omega (
            arith,
            long_cut state (83 + get_or state 21 0) (get_or state 22 0) (omega (arith, long, c.if-state-gt118.false, c.if-state-gt128.false)),
            c.if-state-gt128.false,
          );
    }

pub returns-then-not-is_good-stands_in : goal.returns-then-not-is_good-stands_in
returns-then-not-is_good-stands_in c =
    let state = c.args.state.now in
    let key = chunk_is (drop 51 state) c.unwrap.result.now 32 (rw c.unwrap.ensures at c.first_chunk.ensures.cases).same in
    told_in state _ (session_made state c.load32.ensures c.load64.ensures c.load64-2.ensures c.named.ensures c.from.ensures refl refl key)
    c.if-state-ne-SIZE.false c.if-state-gt118.false c.if-state-gt128.false c.is_good.ensures c.stands_in.ensures
    ∙ c.if-not-is_good-stands_in.true

pub returns : goal.returns
returns c =
    let state = c.args.state.now in
    let key = chunk_is (drop 51 state) c.unwrap.result.now 32 (rw c.unwrap.ensures at c.first_chunk.ensures.cases).same in
    let made = session_made state c.load32.ensures c.load64.ensures c.load64-2.ensures c.named.ensures c.from.ensures refl refl key in (
      told_in state _ made c.if-state-ne-SIZE.false c.if-state-gt118.false c.if-state-gt128.false c.is_good.ensures c.stands_in.ensures
          ∙ c.if-not-is_good-stands_in.false,
      made,
    )

-- A step past a byte, or past two where a backslash shields the second.
-- Assumes nothing.
use Rattle.std.proofs.Common.{◌+◌, arith}
use Rattle.logs.proofs.Parts.{searched_plain, searched_shield, request_past, request_missing}
use Rattle.logs.proofs.line.past_request.Goals as goal
use Rattle.logs.proofs.line.past_request.Goals.{then-line-i-eq92, else-line-i-eq92}

pub loop-i-preserved : goal.loop-i-preserved
loop-i-preserved c =
    let line = c.args.line.now in
    let at = c.args.at in
    let turn = c.loop-i in
    let more = c.loop-i-test.true in
    elim c.if-line-i-eq92.branch [
      | then-line-i-eq92 w ↦ rw w.i-is (omega arith, omega arith, searched_shield line (at + 1) turn.i turn.invariant.2 more w.if-line-i-eq92.true)
      | else-line-i-eq92 w ↦
          rw w.i-is (omega arith, omega arith, searched_plain line (at + 1) turn.i turn.invariant.2 more c.if-line-i-eq34.false w.if-line-i-eq92.false)
    ]

pub returns-then-line-i-eq34 : goal.returns-then-line-i-eq34
returns-then-line-i-eq34 c =
    let turn = c.loop-i in
    request_past c.args.line.now c.args.at turn.i c.past_space.result turn.invariant.2 turn.invariant.0 c.loop-i-test.true c.if-line-i-eq34.true c.past_space.ensures

pub returns : goal.returns
returns c = request_missing c.args.line.now c.args.at c.loop-i.i c.loop-i.invariant.2 c.loop-i-test.false

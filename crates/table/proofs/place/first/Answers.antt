-- A record that passes ends the scan, one that doesn't carries it on, and past the last there is none.
use Rattle.std.proofs.Common.{sym, ◌∙◌, arith}
use Rattle.table.proofs.Scan.{scan_stops, scan_goes, scan_ends}
use Rattle.table.proofs.place.first.Goals as goal

pub returns-then-passes : goal.returns-then-passes
returns-then-passes g c test says =
    scan_stops test (c.loop-place.invariant test says) c.loop-place-test.true
    (sym (says _ _ (omega arith) c.passes.ensures) ∙ c.if-passes.true)

pub loop-place-preserved : goal.loop-place-preserved
loop-place-preserved g c test says =
    scan_goes test (c.loop-place.invariant test says) c.loop-place-test.true
    (sym (says _ _ (omega arith) c.passes.ensures) ∙ c.if-passes.false)

pub returns : goal.returns
returns g c test says = scan_ends test (c.loop-place.invariant test says) c.loop-place-test.false

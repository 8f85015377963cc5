-- `scan_value` meets its contract.
-- Assumes nothing.
use Rattle.std.proofs.Common.{sym, ◌∙◌, arith}
use Rattle.std.proofs.lemmas.Bool.{eqb-true, eqb-false}
use Rattle.armor.proofs.Scan.{progress_none, progress_more, progress_bad, nothing_read, sound_of}
use Rattle.armor.proofs.scanning.scan_value.Goals as goal

pub returns-then-is_empty : goal.returns-then-is_empty
returns-then-is_empty c = nothing_read c.args.value.now (eqb-true _ 0 (sym c.is_empty.ensures ∙ c.if-is_empty.true))

pub loop-at-init : goal.loop-at-init
loop-at-init c = record { within = omega arith; progress = progress_none _ _ c.none-seen.ensures }

pub returns-in_err-piece : goal.returns-in_err-piece
returns-in_err-piece c =
    rw c.from_residual.ensures
    (progress_bad _ _ _ _ c.loop-at.invariant.progress c.loop-at-test.true c.piece_end-end.ensures c.in_err-piece.ensures)

pub loop-at-preserved : goal.loop-at-preserved
loop-at-preserved c = record {
  within = omega (arith, c.piece_end-end.ensures.within);
  progress =
      progress_more _ _ _ _ c.loop-at.invariant.progress c.loop-at-test.true c.piece_end-end.ensures _ _ c.in_ok-piece.ensures
      c.loop-at.seen.within.all c.note.ensures;
}

pub returns : goal.returns
returns c =
    let some = eqb-false _ 0 (sym c.is_empty.ensures ∙ c.if-is_empty.false) in
    sound_of _ _ _ c.loop-at.invariant.progress c.loop-at-test.false (omega arith)

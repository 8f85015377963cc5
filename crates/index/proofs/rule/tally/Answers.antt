-- A record that is not sound ends the count, and any other carries it on.
use Rattle.std.proofs.Common.{arith, ap, sym, ◌∙◌, ◌≡◌, ℕ, true, false, length, suc, add-one}
use borrow.Author.Tests.{eq-eqb, ne_eqb}
use lib.Dec.{eqb}
use Rattle.table.specs.WellFormed.{sound}
use Rattle.table.specs.Table.{records}
use Rattle.table.proofs.Records.{length_records, records_at}
use Rattle.index.proofs.Fitting.{every_none, every_more, every_not, used_none, used_more}
use Rattle.index.proofs.Keys.{used_byte}
use Rattle.index.proofs.Ranked.{used_most}
use Rattle.index.proofs.rule.tally.Goals as goal
use Rattle.index.proofs.rule.tally.Goals.{then-table-place-eq1, else-table-place-eq1}

pub loop-place-init : goal.loop-place-init
loop-place-init c = (every_none _, sym (used_none _))

pub returns-then-not-sound_at : goal.returns-then-not-sound_at
returns-then-not-sound_at c =
    let inside = c.loop-place-test.true in
    every_not _ _ _ (omega (arith, inside, length_records c.args.table.now))
    (ap sound (records_at c.args.table.now _ inside) ∙ sym c.sound_at.ensures ∙ c.if-not-sound_at.true)

pub overflow_add-used : goal.overflow_add-used
overflow_add-used c = omega (arith, c.loop-place.invariant.1, used_most (records c.args.table.now) c.loop-place.place, c.loop-place-test.true)

pub loop-place-preserved : goal.loop-place-preserved
loop-place-preserved c =
    let table = c.args.table.now in
    let loop = c.loop-place in
    let inside = c.loop-place-test.true in
    let byte = ap (λ (n : ℕ). eqb n 1) (used_byte table loop.place inside) in (
      every_more _ _ loop.invariant.0 (ap sound (records_at table _ inside) ∙ sym c.sound_at.ensures ∙ c.if-not-sound_at.false),
      elim c.if-table-place-eq1.branch [
        | then-table-place-eq1 w ↦ w.used-is ∙ add-one _ ∙ ap suc loop.invariant.1
            ∙ sym (used_more (records table) loop.place true (byte ∙ eq-eqb _ _ w.if-table-place-eq1.true))
        | else-table-place-eq1 w ↦ w.used-is ∙ loop.invariant.1
            ∙ sym (used_more (records table) loop.place false (byte ∙ ne_eqb _ _ w.if-table-place-eq1.false))
      ],
    )

pub returns : goal.returns
returns c =
    let all : length (records c.args.table.now) ≡ c.loop-place.place = omega (arith, length_records c.args.table.now, c.loop-place-test.false) in
    rw all c.loop-place.invariant

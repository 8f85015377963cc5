-- The index is vacant first, and fits the table when each record has had its turn.
use Rattle.std.proofs.Common.{arith, length, rules}
use Rattle.table.specs.Table.{records}
use Rattle.table.proofs.Records.{length_records}
use Rattle.table.proofs.Meaning.{well_formed_is}
use Rattle.index.proofs.Making.{made_none, made_all}
use Rattle.index.proofs.change.make.Goals as goal

pub loop-place-init : goal.loop-place-init
loop-place-init c =
    let long = length_records c.args.table.now in
    made_none (records c.args.table.now) _ (length c.args.index.now) (omega (arith, c.requires.0)) (omega (arith, c.requires.1)) (search rules)

pub enter_next-requires : goal.enter_next-requires
enter_next-requires c = (c.loop-place.invariant, well_formed_is _ c.requires.2, c.loop-place-test.true)

pub returns : goal.returns
returns c = made_all (records c.args.table.now) c.loop-place.place _ (omega (arith, c.loop-place-test.false, length_records c.args.table.now)) c.loop-place.invariant

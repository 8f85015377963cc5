-- What is laid, and then what is joined from place on, is the text.
-- Assumes nothing.
use Rattle.std.proofs.Common.{◌-◌, length}
use Rattle.lines.specs.Values.{joined}
use Rattle.lines.specs.InnerPlaces.{Stands, own_at}
use Rattle.structured.proofs.Laying.{Laying}
use Rattle.signatures.proofs.components.put_joined.Given as goal

abbrev pub invariant-loop-next : goal.invariant-loop-next
invariant-loop-next l = record {
  stands : Stands l.block l.place;
  laying : Laying l.fn.out l.out 0 l.end (joined (own_at l.block l.at)) (joined (own_at l.block l.place));
}

abbrev pub decreases-loop-next : goal.decreases-loop-next
decreases-loop-next l = length l.block - l.place

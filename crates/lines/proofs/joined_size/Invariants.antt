-- The size so far and what is joined from place on, whose first value is in both.
use Rattle.std.proofs.Common.{◌≡◌, ◌+◌, ◌-◌, length}
use Rattle.lines.specs.Values.{joined}
use Rattle.lines.specs.InnerPlaces.{Stands, front_at, own_at}
use Rattle.lines.proofs.joined_size.Given as goal

abbrev pub invariant-loop-next : goal.invariant-loop-next
invariant-loop-next l =
    Stands l.block l.place
    × (length (joined (own_at l.block l.at)) + length (front_at l.block l.place) ≡ l.size + length (joined (own_at l.block l.place)))

abbrev pub decreases-loop-next : goal.decreases-loop-next
decreases-loop-next l = length l.block - l.place

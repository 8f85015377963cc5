-- A part m of what is joined from at on is taken in, up to the value at place; what follows that value follows m.
use Rattle.std.proofs.Common.{◌≡◌, ◌-◌, ◌++◌, ℕ, List, length}
use Rattle.sha_2.specs.InnerTaken.{TookIn}
use Rattle.lines.specs.Values.{joined}
use Rattle.lines.specs.InnerPlaces.{Stands, front_at, own_at}
use Rattle.signed.proofs.absorb_lines.Given as goal

abbrev pub invariant-loop-next : goal.invariant-loop-next
invariant-loop-next l =
    Stands l.block l.place
    × (m : List ℕ) × TookIn l.fn.state m l.state
    × ((rest : List ℕ) → joined (own_at l.block l.place) ≡ front_at l.block l.place ++ rest → joined (own_at l.block l.at) ≡ m ++ rest)

abbrev pub decreases-loop-next : goal.decreases-loop-next
decreases-loop-next l = length l.block - l.place

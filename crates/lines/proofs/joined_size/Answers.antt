use Rattle.std.proofs.Common.{◌≡◌, ◌+◌, ◌∷◌, length, ap, arith}
use Rattle.std.proofs.Math.ListN.{length-append}
use Rattle.names.specs.Extra.{comma}
use Rattle.lines.specs.Values.{space, joined}
use Rattle.lines.specs.InnerPlaces.{front_at, own_at}
use Rattle.lines.proofs.Joined.{own_alone, own_then, own_begins, own_short}
use Rattle.lines.proofs.joined_size.Goals as goal

-- what is joined from the line that is found on
sums : (c : goal.After-value_at)
    → length (joined (own_at c.args.block.now c.args.at)) ≡ c.loop-next.size + 2 + length (joined (own_at c.args.block.now c.in-Some.next))
sums c =
    let loop = c.loop-next in
    let block = c.args.block.now in
    omega (arith, loop.invariant.1, ap length (own_then block loop.place _ c.in-Some.ensures), length-append (front_at block loop.place) (comma ∷ space ∷ joined (own_at block c.in-Some.next)))

pub overflow_add-size-in-Some : goal.overflow_add-size-in-Some
overflow_add-size-in-Some c =
    omega (arith, sums c, own_begins _ _ c.in-Some.ensures.found.stands, own_short _ _ c.requires, ap length c.value_at.ensures)

pub loop-next-preserved : goal.loop-next-preserved
loop-next-preserved c = (c.in-Some.ensures.found.stands, omega (arith, sums c, ap length c.value_at.ensures))

pub returns : goal.returns
returns c = omega (arith, c.loop-next.invariant.1, ap length (own_alone _ _ c.in_default.ensures))

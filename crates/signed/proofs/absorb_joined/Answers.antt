-- The netstring is taken in by its three pieces, the second line by line.
use Rattle.std.proofs.Common.{◌≡◌, ◌∙◌, List, ℕ, ap, length, arith}
use Rattle.netstring.specs.InnerOpening.{opening}
use Rattle.lines.specs.Values.{joined}
use Rattle.lines.specs.InnerPlaces.{own_at}
use Rattle.signed.proofs.Streaming.{pieces_size, took_netstring}
use Rattle.signed.proofs.absorb_joined.Goals as goal
use Rattle.signed.proofs.absorb_joined.Goals.{After-as_slice}

abbrev value : After-as_slice → List ℕ
value c = joined (own_at c.args.block.now c.args.at)

opens : (c : After-as_slice) → c.as_slice.result.now ≡ opening (length (value c))
opens c = c.as_slice.ensures ∙ c.opening.ensures ∙ ap opening c.joined_size.ensures

pub absorb-requires : goal.absorb-requires
absorb-requires c = omega (arith, pieces_size (value c) (opens c), c.requires.1)

pub absorb_lines-requires : goal.absorb_lines-requires
absorb_lines-requires c =
    let made = (goal.at.absorb_lines-requires c).After-as_slice in
    (c.requires.0, omega (arith, pieces_size (value made) (opens made), c.requires.1, c.absorb.ensures.counted))

pub absorb-requires-2 : goal.absorb-requires-2
absorb-requires-2 c =
    let made = (goal.at.absorb-requires-2 c).After-as_slice in
    omega (arith, pieces_size (value made) (opens made), c.requires.1, c.absorb.ensures.counted, c.absorb_lines.ensures.counted)

pub returns : goal.returns
returns c =
    let made = (goal.at.returns c).After-as_slice in
    took_netstring (value made) (opens made) c.absorb.ensures c.absorb_lines.ensures c.absorb-2.ensures

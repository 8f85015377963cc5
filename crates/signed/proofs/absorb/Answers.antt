-- The netstring is taken in by its three pieces.
use Rattle.std.proofs.Common.{◌≡◌, ◌∙◌, length, arith}
use Rattle.netstring.specs.InnerOpening.{opening}
use Rattle.signed.proofs.Streaming.{pieces_size, took_netstring}
use Rattle.signed.proofs.absorb.Goals as goal
use Rattle.signed.proofs.absorb.Goals.{After-as_slice}

opens : (c : After-as_slice) → c.as_slice.result.now ≡ opening (length c.args.part.now)
opens c = c.as_slice.ensures ∙ c.opening.ensures

pub absorb-requires : goal.absorb-requires
absorb-requires c = omega (arith, pieces_size c.args.part.now (opens c))

pub absorb-requires-2 : goal.absorb-requires-2
absorb-requires-2 c = omega (arith, pieces_size c.args.part.now (opens (goal.at.absorb-requires-2 c).After-as_slice), c.absorb.ensures.counted)

pub absorb-requires-3 : goal.absorb-requires-3
absorb-requires-3 c =
    omega (arith, pieces_size c.args.part.now (opens (goal.at.absorb-requires-3 c).After-as_slice), c.absorb.ensures.counted, c.absorb-2.ensures.counted)

pub returns : goal.returns
returns c = took_netstring c.args.part.now (opens (goal.at.returns c).After-as_slice) c.absorb.ensures c.absorb-2.ensures c.absorb-3.ensures

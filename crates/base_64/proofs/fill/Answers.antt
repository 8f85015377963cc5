-- `fill` meets its contract.
-- Assumes nothing.
use Rattle.std.proofs.Common.{◌≢◌, ◌<◌, ◌∙◌, length, arith, below_more, get_or-set_other, get_or-set_same}
use Rattle.std.proofs.lemmas.Grind.{same_number_lists}
use Rattle.base_64.proofs.Exactly.{known}
use Rattle.base_64.proofs.Filling.{byte_known}
use Rattle.base_64.proofs.fill.Goals as goal

pub byte-requires : goal.byte-requires
byte-requires c = (byte_known _ _ c.loop-i.i c.requires c.loop-i-test.true).1

pub loop-i-preserved : goal.loop-i-preserved
loop-i-preserved c =
    let here = c.byte.ensures ∙ (byte_known _ _ c.loop-i.i c.requires c.loop-i-test.true).0 in
    below_more _ _
    (λ k h. let ne : k ≢ c.loop-i.i = omega arith in rw get_or-set_other (c.loop-i.invariant k h))
    (let lt : c.loop-i.i < length c.loop-i.out = omega arith in rw get_or-set_same here)

pub returns : goal.returns
returns c =
    let size = (known _ _ c.requires).2 in
    same_number_lists _ _ (omega (arith, size)) (λ k h. c.loop-i.invariant k (omega arith))

-- `spell` meets its contract.
-- Assumes nothing.
use Rattle.std.proofs.Common.{◌≢◌, ◌<◌, ◌∙◌, length, arith, below_more, get_or-set_other, get_or-set_same}
use Rattle.std.proofs.lemmas.Grind.{same_number_lists}
use Rattle.base_64.proofs.Filling.{character_encoded}
use Rattle.base_64.proofs.spell.Goals as goal

pub loop-i-preserved : goal.loop-i-preserved
loop-i-preserved c =
    let here = c.character.ensures ∙ character_encoded c.args.bytes.now c.loop-i.i (λ k. (c.type_inv.bytes k).fits) (omega arith) in
    below_more _ _
    (λ k h. let ne : k ≢ c.loop-i.i = omega arith in rw get_or-set_other (c.loop-i.invariant k h))
    (let lt : c.loop-i.i < length c.loop-i.out = omega arith in rw get_or-set_same here)

pub returns : goal.returns
returns c = same_number_lists _ _ (omega arith) (λ k h. c.loop-i.invariant k (omega arith))

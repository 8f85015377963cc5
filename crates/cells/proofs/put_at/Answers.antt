-- The part that is lent is filled whole.
-- Assumes nothing.
use Rattle.std.proofs.Common.{◌+◌, ◌-◌, ◌∙◌, arith, length, refl}
use Rattle.cells.specs.Runs.{part}
use Rattle.cells.proofs.Runs.{lent, length_part, fronted_whole}
use Rattle.cells.proofs.put_at.Goals as goal

pub returns : goal.returns
returns c =
    let out = c.args.out.now in
    let src = c.args.src.now in
    let at = c.args.at in
    let size = at + length src - at in record {
      is =
          lent out src at (at + length src)
          (c.put_front.ensures ∙ fronted_whole src (part out at size) (omega (arith, length_part out at size (omega (arith, c.requires)))))
          (omega arith);
      ends = refl;
    }

-- The bytes that are read are that part of the run, one by one.
use Rattle.std.proofs.Common.{sym, ◌∙◌, ap, add-zero, arith}
use Rattle.cells.specs.Numbers.{number}
use Rattle.cells.proofs.Runs.{part_listed}
use Rattle.cells.proofs.load32.Goals as goal

pub returns : goal.returns
unfolding number
returns c =
    c.from_be_bytes.ensures ∙ omega arith
    ∙ ap number (sym (simp add-zero at (part_listed c.args.s.now c.args.at 0 4 (omega (arith, c.requires)))))

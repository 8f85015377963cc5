-- The signed comparison is that of the integers.
use Rattle.std.proofs.Common.{arith, rules, w64, pos}
use mir.Val.{SFits}
use mir.ValLaws.{to_z-of_z}
use Rattle.window.specs.Time.{difference, exceeds}
use Rattle.window.proofs.Times.{difference_fits}
use Rattle.window.proofs.time.apart.Goals as goal

pub returns : goal.returns
unfolding exceeds
returns c =
    let a = c.args in
    let limit : SFits w64 (pos a.limit) = search rules in
    let apart : SFits w64 (difference a.later.0 a.earlier.0) = difference_fits a.later.0 a.earlier.0 (omega arith) (omega arith) in
    rw (c.from.ensures, c.age.ensures, to_z-of_z w64 _ limit, to_z-of_z w64 _ apart)

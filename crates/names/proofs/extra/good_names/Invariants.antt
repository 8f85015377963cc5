use Rattle.std.proofs.Common.{◌≡◌, length}
use Rattle.names.specs.Extra.{good_names}
use Rattle.names.specs.InnerWalk.{names_left}
use Rattle.names.proofs.extra.good_names.Given as goal

abbrev pub invariant-loop-name : goal.invariant-loop-name
invariant-loop-name l = good_names (names_left l.fn.names) ≡ good_names (names_left l.names)

abbrev pub decreases-loop-name : goal.decreases-loop-name
decreases-loop-name l = length (names_left l.names)

-- What is found so far, with the names that are left, tells of the whole list.
-- Assumes nothing.
use Rattle.std.proofs.Common.{length}
use Rattle.names.specs.InnerWalk.{names_left}
use Rattle.signatures.specs.InnerAnswers.{message_in}
use Rattle.signatures.proofs.Values.{Looking}
use Rattle.signatures.proofs.message.Message.look.Given as goal

abbrev pub invariant-loop-name : goal.invariant-loop-name
invariant-loop-name l = Looking (message_in l.self) l.names (names_left l.left) l.printable l.twice l.missing

abbrev pub decreases-loop-name : goal.decreases-loop-name
decreases-loop-name l = length (names_left l.left)

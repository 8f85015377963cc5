-- What is laid, and then the strings of the names that are left, is the text.
-- Assumes nothing.
use Rattle.names.specs.Extra.{extra_names}
use Rattle.names.specs.InnerWalk.{names_left}
use Rattle.structured.specs.Texts.{further, strings}
use Rattle.structured.proofs.Laying.{Laying}
use Rattle.structured.proofs.put_strings.Given as goal

abbrev pub invariant-loop-name : goal.invariant-loop-name
invariant-loop-name l = Laying l.fn.out l.out l.fn.at l.end (strings (extra_names l.run)) (further (names_left l.name-iterator))

-- What is taken in, and then the lines of the names that are left, is the text.
-- Assumes nothing.
use Rattle.std.proofs.Common.{◌≡◌, true, ◌+◌, ◌^◌, ◌<◌, length}
use Rattle.names.specs.Extra.{extra_names as listed}
use Rattle.names.specs.InnerWalk.{names_left}
use Rattle.sha_2.specs.declared.State.{State}
use Rattle.sha_2.specs.InnerTaken.{TookIn}
use Rattle.signatures.specs.Components.{all_components}
use Rattle.signatures.specs.Base.{component_lines}
use Rattle.signatures.specs.InnerAnswers.{message_in}
use Rattle.signatures.proofs.absorb_lines.Given as goal

abbrev pub invariant-loop-name : goal.invariant-loop-name
invariant-loop-name l = let left = component_lines (message_in l.message) (names_left l.name-iterator) in record {
  components : all_components (names_left l.name-iterator) ≡ true;
  room : l.state.length + length left < 2 ^ 61;
  took : (r : State) → TookIn l.state left r → TookIn l.fn.state (component_lines (message_in l.message) (listed l.names)) r;
}

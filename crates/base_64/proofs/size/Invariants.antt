use Rattle.std.proofs.Common.{◌≡◌, ◌+◌, ◌≤◌, length}
use Rattle.base_64.specs.InnerAnswers.{measured}
use Rattle.base_64.specs.InnerSteps.{plus}
use Rattle.base_64.proofs.size.Given as goal

-- the groups so far have n bytes, and the text has those and what the rest encodes
abbrev pub invariant-loop-group : goal.invariant-loop-group
invariant-loop-group l = record {
  is : measured l.fn.text ≡ plus l.n (measured l.left);
  fits : l.n + length l.left ≤ length l.fn.text;
}

abbrev pub decreases-loop-group : goal.decreases-loop-group
decreases-loop-group l = length l.left

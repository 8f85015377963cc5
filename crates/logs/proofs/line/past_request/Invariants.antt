-- No quote that ends the request stands before byte i.
-- Assumes nothing.
use Rattle.std.proofs.Common.{◌+◌, ◌-◌, ◌≤◌, ◌<◌, length}
use Rattle.logs.proofs.Parts.{Searched}
use Rattle.logs.proofs.line.past_request.Given as goal

abbrev pub invariant-loop-i : goal.invariant-loop-i
invariant-loop-i l = (l.at < l.i) × (l.i ≤ length l.line + 1) × Searched l.line (l.at + 1) l.i

abbrev pub decreases-loop-i : goal.decreases-loop-i
decreases-loop-i l = length l.line + 1 - l.i

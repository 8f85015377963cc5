-- No count is more than their sum.
-- Assumes nothing.
use Rattle.std.proofs.Common.{arith}
use Rattle.logs.proofs.Counting.{entry_within}
use Rattle.logs.proofs.state.count.Goals as goal

pub overflow_add-counts : goal.overflow_add-counts
overflow_add-counts c = omega (arith, entry_within c.args.counts.now c.unwrap_or.result)

use Rattle.std.proofs.Common.{ap, sym, ℕ}
use lib.Dec.{eqb}
use Rattle.table.proofs.Records.{used_at_lem}
use Rattle.table.proofs.place.is_free.Goals as goal

pub returns : goal.returns
returns c = sym (ap (λ (n : ℕ). eqb n 0) (used_at_lem c.args.table.now c.args.place c.requires))

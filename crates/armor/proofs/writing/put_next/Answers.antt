-- `put_next` meets its contract.
-- Assumes nothing.
use Rattle.std.proofs.Common.{arith}
use Rattle.armor.specs.Value.{field}
use Rattle.armor.proofs.Laying.{laid_next}
use Rattle.armor.proofs.writing.put_next.Goals as goal

pub returns : goal.returns
returns c =
    let a = c.args in
    let put = c.put_at-first in
    let f = c.put_field in (
      omega (arith, f.ensures.0, put.ensures.ends),
      laid_next (field a.name.now a.content.now) put.ensures f.ensures.1 (omega (arith, c.requires, f.ensures.0, put.ensures.ends)),
    )

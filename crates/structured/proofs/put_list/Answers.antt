-- A list is its strings between two parentheses.
-- Assumes nothing.
use Rattle.std.proofs.Common.{arith}
use Rattle.names.specs.Extra.{extra_names}
use Rattle.structured.specs.Texts.{inner_list}
use Rattle.structured.proofs.Texts.{list_length}
use Rattle.structured.proofs.Laying.{laid_between}
use Rattle.structured.proofs.put_list.Goals as goal

pub put_at-start-requires : goal.put_at-start-requires
put_at-start-requires c = omega (arith, list_length (extra_names c.args.run.now))

pub put_strings-end-requires : goal.put_strings-end-requires
put_strings-end-requires c = omega (arith, c.put_at-start.ensures.ends, list_length (extra_names c.args.run.now))

pub put_at-requires : goal.put_at-requires
put_at-requires c = omega (arith, list_length (extra_names c.args.run.now), c.put_strings-end.ensures.ends, c.put_at-start.ensures.ends)

pub returns : goal.returns
unfolding inner_list
returns c = laid_between c.put_at-start.ensures c.put_strings-end.ensures c.put_at.ensures (omega (arith, list_length (extra_names c.args.run.now)))

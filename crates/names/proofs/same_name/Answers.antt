use Rattle.names.proofs.Same.{same_ignoring}
use Rattle.names.proofs.same_name.Goals as goal

pub returns : goal.returns
returns c = same_ignoring _ _ _ c.eq_ignore_ascii_case.ensures.test

-- Answers for `trying::same_token`.
-- Assumes nothing.
use Rattle.std.proofs.Common.{sym}
use Rattle.gate.specs.Trial.{same_token}
use Rattle.gate.proofs.trying.same_token.Goals as goal

pub returns : goal.returns
unfolding same_token
returns c fs gs lies held =
    simp (c.same.ensures, c.same-2.ensures, c.same-3.ensures, c.as_slice.ensures, c.as_slice-2.ensures, lies.token, lies.vector, lies.tag, held.token, held.vector, held.tag)

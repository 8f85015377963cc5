use Rattle.std.proofs.Common.{ℕ, ap, take, ◌∙◌}
use Rattle.cells.specs.Runs.{same}
use Rattle.signed.proofs.same_code.Goals as goal

pub returns : goal.returns
returns c = c.same.ensures ∙ ap (λ (n : ℕ). same c.args.c.now (take n c.args.code.now)) c.size.ensures

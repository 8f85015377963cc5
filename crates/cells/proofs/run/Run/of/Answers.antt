-- What stands at the front is the run.
-- Assumes nothing.
use Rattle.std.proofs.Common.{List, ℕ, length, take, refl, ap, ◌∙◌}
use lib.Seq.{take_at}
use Rattle.cells.specs.Runs.{fronted}
use Rattle.cells.proofs.run.Run.of.Goals as goal

pub returns : goal.returns
unfolding fronted
returns g c =
    let run = c.args.run.now in
    ap (λ (l : List ℕ). take (length run) l) c.put_front.ensures ∙ take_at run _ (length run) refl

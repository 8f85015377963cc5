-- A line that is begun is counted as if its line feed came.
-- Assumes nothing.
use Rattle.std.proofs.Common.{ap, ◌∙◌, arith}
use Rattle.logs.specs.Counts.{sum}
use Rattle.logs.specs.declared.state.State.{State}
use Rattle.logs.proofs.States.{told_all, told_last}
use Rattle.logs.proofs.state.State.finish.Goals as goal
use Rattle.logs.proofs.state.State.finish.Goals.{then-self-gt0, else-self-gt0}

pub returns : goal.returns
returns c = elim c.if-self-gt0.branch [
  | then-self-gt0 w ↦
      let ended = w.end_line.ensures in
      let told = ap (λ (s : State). s.counts) w.self-is in (
        λ text h. told ∙ told_last c.args.self w.end_line.new.self text w.if-self-gt0.true ended.0 ended.1 h,
        omega (arith, ap sum told, ended.0.most),
      )
  | else-self-gt0 w ↦
      let told = ap (λ (s : State). s.counts) w.self-is in
      (λ text h. told ∙ told_all c.args.self text (omega (arith, w.if-self-gt0.false)) h, omega (arith, ap sum told))
]

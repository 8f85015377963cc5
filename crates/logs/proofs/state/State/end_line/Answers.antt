-- The line that is begun is counted where it was kept, and unread where it was too long.
-- Assumes nothing.
use Rattle.std.proofs.Common.{take, refl, ap, sym, ◌∙◌, arith}
use Rattle.logs.specs.Counts.{under}
use Rattle.logs.specs.declared.state.State.{State}
use Rattle.logs.proofs.Counting.{entry_within}
use Rattle.logs.proofs.Statuses.{under_long}
use Rattle.logs.proofs.States.{took_feed}
use Rattle.logs.proofs.state.State.end_line.Goals as goal
use Rattle.logs.proofs.state.State.end_line.Goals.{then-self-le8192, else-self-le8192}

pub overflow_add-self : goal.overflow_add-self
overflow_add-self c = omega (arith, entry_within c.args.self.now.counts 0)

pub returns : goal.returns
returns c =
    let self = c.args.self.now in
    elim c.if-self-le8192.branch [
      | then-self-le8192 w ↦ (
        took_feed self _ (under (take self.size self.begun)) refl (ap (λ (s : State). s.counts) w.self-is ∙ w.count.ensures)
            (λ begun h keeps. ap under (sym (keeps w.if-self-le8192.true))),
        refl,
      )
      | else-self-le8192 w ↦ (
        took_feed self _ 0 refl (ap (λ (s : State). s.counts) w.self-is) (λ begun h keeps. under_long begun (omega (arith, w.if-self-le8192.false))),
        refl,
      )
    ]

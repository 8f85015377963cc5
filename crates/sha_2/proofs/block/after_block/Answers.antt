use Rattle.std.proofs.Common.{ℕ, List, sym, refl, ◌∙◌}
use Rattle.sha_2.specs.Numbers.{Numbers, numbers}
use Rattle.sha_2.proofs.Rounds.{few, none_turned, all_turned}
use Rattle.sha_2.proofs.block.after_block.Goals as goal
use Rattle.sha_2.proofs.block.after_block.Goals.{then-rounds-eq80, else-rounds-eq80}

pub returns : goal.returns
returns g c =
    let h = g.W.Word.hash in
    let block : List ℕ = c.args.block.now in
    let v : Numbers = numbers g.W.Word.value c.args.v in
    let most = c.rounds_48_63-x.ensures block v (c.rounds_32_47-x.ensures block v (c.rounds_16_31-x.ensures block v (c.rounds_0_15-x.ensures v (none_turned h block v _ refl)))) in
    elim c.if-rounds-eq80.branch [
      | then-rounds-eq80 w ↦
          all_turned h block v (sym w.if-rounds-eq80.true ∙ c.rounds.ensures) (w.rounds_64_79-x.ensures block v most) (rw w.x-is at c.sum.ensures)
      | else-rounds-eq80 w ↦
          all_turned h block v (few h (λ e. w.if-rounds-eq80.false (c.rounds.ensures ∙ e))) most (rw w.x-is at c.sum.ensures)
    ]

-- Runs of twelve bytes are the same exactly if the numbers of their first eight and of their last four are.
use Rattle.std.proofs.Common.{ap₂, sym, ◌∙◌}
use lib.Dec.{eqb}
use Rattle.table.proofs.Ivs.{other_length, other_number, second_decides}
use Rattle.table.proofs.place.same_iv.Goals as goal

pub returns-then-iv-ne12 : goal.returns-then-iv-ne12
returns-then-iv-ne12 c = other_length c.args.table.now c.args.iv.now c.args.at c.requires c.if-iv-ne12.true

pub returns-then-load64 : goal.returns-then-load64
returns-then-load64 c =
    other_number c.args.table.now c.args.iv.now c.args.at c.requires
    (λ e. c.if-load64.true (c.load64.ensures ∙ e ∙ sym c.load64-2.ensures))

pub returns : goal.returns
returns c =
    ap₂ eqb c.load32.ensures c.load32-2.ensures
    ∙ second_decides c.args.table.now c.args.iv.now c.args.at c.requires (λ i. (c.type_inv.table i).fits) (λ i. (c.type_inv.iv i).fits)
    c.if-iv-ne12.false (sym c.load64.ensures ∙ c.if-load64.false ∙ c.load64-2.ensures)

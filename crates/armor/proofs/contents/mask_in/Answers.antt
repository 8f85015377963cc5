-- `mask_in` meets its contract.
-- Assumes nothing.
use Rattle.std.proofs.Common.{List, ℕ, ◌-◌, length, take, drop, ap, ◌∙◌}
use Rattle.cells.specs.Numbers.{number}
use Rattle.armor.proofs.Texts.{mask_rest}
use Rattle.armor.proofs.contents.mask_in.Goals as goal

pub returns : goal.returns
returns c =
    c.number_of.ensures
    ∙ ap (λ (l : List ℕ). number (take (length l - 1) (drop 1 l))) (c.as_slice.ensures ∙ c.held.ensures)
    ∙ mask_rest _

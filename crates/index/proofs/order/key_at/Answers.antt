-- Twelve bytes are four and then eight.
use Rattle.std.proofs.Common.{sym, ap₂, ◌∙◌, ℕ, ◌+◌, ◌*◌, ◌^◌}
use Rattle.index.proofs.Keys.{in_two}
use Rattle.index.proofs.order.key_at.Goals as goal

pub returns : goal.returns
returns c =
    ap₂ (λ (x y : ℕ). x * 2 ^ 64 + y) (c.from.ensures ∙ c.load32.ensures) (c.from-2.ensures ∙ c.load64.ensures)
    ∙ sym (in_two _ _ c.requires)

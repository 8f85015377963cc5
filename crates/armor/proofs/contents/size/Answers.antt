-- `size` meets its contract.
-- Assumes nothing.
use Rattle.std.proofs.Common.{◌∙◌, ℕ, ap}
use Rattle.std.specs.Prelude.{Option, unwrap_or}
use Rattle.armor.proofs.Texts.{size_is}
use Rattle.armor.proofs.contents.size.Goals as goal

pub returns : goal.returns
returns c = c.unwrap_or.ensures ∙ ap (λ (o : Option ℕ). unwrap_or o 0) c.measure.ensures ∙ size_is c.args.text.now

use Rattle.std.proofs.Common.{◌/◌, ◌^◌, ap, ◌∙◌}
use Rattle.sha_2.proofs.Constants.{first_half}
use Rattle.sha_2.proofs.word256.U32Word.constant.Goals as goal

pub returns : goal.returns
returns c = ap (λ k. k / 2 ^ 32) c.requires.1 ∙ first_half c.args._t c.requires.0

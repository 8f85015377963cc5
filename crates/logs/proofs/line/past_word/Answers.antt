-- Assumes nothing.
use Rattle.logs.proofs.Parts.{word_past}
use Rattle.logs.proofs.line.past_word.Goals as goal

pub returns : goal.returns
returns c = word_past c.args.line.now c.args.at c.find-end.result c.past_space.result c.find-end.ensures c.past_space.ensures

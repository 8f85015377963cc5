use Rattle.std.proofs.Common.{refl}
use Rattle.sha_2.proofs.Streaming.{none_taken}
use Rattle.sha_2.proofs.State.new.Goals as goal

pub returns : goal.returns
returns c = (refl, none_taken c.args.hash _ refl refl c.initial.ensures)

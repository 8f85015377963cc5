use Rattle.sha_2.specs.Word.{Ch}
use Rattle.sha_2.proofs.ChMaj.{ch_shorter}
use Rattle.sha_2.proofs.word512.U64Word.ch.Goals as goal

pub returns : goal.returns
unfolding Ch
returns c = ch_shorter 64 c.args.self c.args.y c.args.z c.ranges.self.fits c.ranges.y.fits c.ranges.z.fits

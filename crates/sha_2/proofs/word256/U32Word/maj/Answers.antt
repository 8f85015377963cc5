use Rattle.sha_2.specs.Word.{Maj}
use Rattle.sha_2.proofs.ChMaj.{maj_shorter}
use Rattle.sha_2.proofs.word256.U32Word.maj.Goals as goal

pub returns : goal.returns
unfolding Maj
returns c = maj_shorter 32 c.args.self c.args.y c.args.z c.ranges.self.fits c.ranges.y.fits c.ranges.z.fits

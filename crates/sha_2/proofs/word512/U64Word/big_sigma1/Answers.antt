use Rattle.std.proofs.Common.{refl}
use Rattle.sha_2.specs.Word.{Σ1}
use Rattle.sha_2.proofs.Rotations.{three_rotations}
use Rattle.sha_2.proofs.word512.U64Word.big_sigma1.Goals as goal

pub returns : goal.returns
unfolding Σ1
returns c = rw (c.rotate_right-3.ensures, c.rotate_right-2.ensures, c.rotate_right.ensures) (three_rotations 14 4 23 23 c.args.self refl c.ranges.self.fits)

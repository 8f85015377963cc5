use Rattle.std.proofs.Common.{refl}
use Rattle.sha_2.specs.Word.{SHR, σ1}
use Rattle.sha_2.proofs.Rotations.{two_rotations}
use Rattle.sha_2.proofs.word256.U32Word.small_sigma1.Goals as goal

pub returns : goal.returns
unfolding σ1
returns c = rw (c.rotate_right-2.ensures, c.rotate_right.ensures) (two_rotations 17 13 2 c.args.self (SHR 10 c.args.self) refl c.ranges.self.fits)

use Rattle.std.proofs.Common.{refl}
use Rattle.sha_2.specs.Word.{SHR, σ0}
use Rattle.sha_2.proofs.Rotations.{two_rotations}
use Rattle.sha_2.proofs.word256.U32Word.small_sigma0.Goals as goal

pub returns : goal.returns
unfolding σ0
returns c = rw (c.rotate_right-2.ensures, c.rotate_right.ensures) (two_rotations 7 14 11 c.args.self (SHR 3 c.args.self) refl c.ranges.self.fits)

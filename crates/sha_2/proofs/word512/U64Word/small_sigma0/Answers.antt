use Rattle.std.proofs.Common.{refl}
use Rattle.sha_2.specs.Word.{SHR, σ0}
use Rattle.sha_2.proofs.Rotations.{two_rotations}
use Rattle.sha_2.proofs.word512.U64Word.small_sigma0.Goals as goal

pub returns : goal.returns
unfolding σ0
returns c = rw (c.rotate_right-2.ensures, c.rotate_right.ensures) (two_rotations 1 56 7 c.args.self (SHR 7 c.args.self) refl c.ranges.self.fits)

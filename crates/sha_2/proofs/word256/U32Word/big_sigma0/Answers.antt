use Rattle.std.proofs.Common.{refl}
use Rattle.sha_2.specs.Word.{ROTR, Σ0}
use Rattle.sha_2.proofs.Rotations.{two_rotations}
use Rattle.sha_2.proofs.word256.U32Word.big_sigma0.Goals as goal

pub returns : goal.returns
unfolding Σ0
returns c = rw (c.rotate_right-2.ensures, c.rotate_right.ensures, c.rotate_right-3.ensures) (two_rotations 2 19 11 c.args.self (ROTR 32 22 c.args.self) refl c.ranges.self.fits)

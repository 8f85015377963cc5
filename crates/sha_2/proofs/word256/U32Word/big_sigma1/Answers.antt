use Rattle.std.proofs.Common.{refl}
use Rattle.sha_2.specs.Word.{ROTR, Σ1}
use Rattle.sha_2.proofs.Rotations.{two_rotations}
use Rattle.sha_2.proofs.word256.U32Word.big_sigma1.Goals as goal

pub returns : goal.returns
unfolding Σ1
returns c = rw (c.rotate_right-2.ensures, c.rotate_right.ensures, c.rotate_right-3.ensures) (two_rotations 6 21 5 c.args.self (ROTR 32 25 c.args.self) refl c.ranges.self.fits)

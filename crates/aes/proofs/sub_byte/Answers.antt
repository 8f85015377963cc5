-- An entry of the table: antt computes all 256 of them.
-- Assumes nothing.
use Rattle.std.proofs.Common.{refl, rules}
use Rattle.aes.specs.Field.{xtimes, times_bits, times, squares}
use Rattle.aes.specs.Sbox.{inverse, affine_bit, affine_bits, sub_byte}
use Rattle.aes.proofs.Substitution.{substituted}
use Rattle.aes.specs.declared.TheConstants.{SBOX}
use Rattle.aes.proofs.sub_byte.Goals as goal

pub returns : goal.returns
unfolding xtimes times_bits times squares inverse affine_bit affine_bits sub_byte
returns c = substituted SBOX refl c.args.b (search rules)

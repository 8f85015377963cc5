-- The whole of REVERSE lists the six-bit values of the 256 bytes.
-- Assumes nothing.
use Rattle.base_64.specs.Alphabet.{counted, alphabet, place_in, six_bits}
use Rattle.base_64.proofs.Listed.{listed, lists}
use Rattle.base_64.proofs.tables.Reverse.new.Goals as goal

pub invariant_of-result : goal.invariant_of-result
unfolding counted alphabet place_in six_bits listed
invariant_of-result c = record { lists = lists six_bits 256 }

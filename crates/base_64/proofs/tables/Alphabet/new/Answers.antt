-- The whole of ALPHABET lists the characters of the 64 values.
-- Assumes nothing.
use Rattle.base_64.specs.Alphabet.{counted, alphabet, character}
use Rattle.base_64.proofs.Listed.{listed, lists}
use Rattle.base_64.proofs.tables.Alphabet.new.Goals as goal

pub invariant_of-result : goal.invariant_of-result
unfolding counted alphabet character listed
invariant_of-result c = record { lists = lists character 64 }

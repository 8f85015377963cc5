-- GCTR of the hash.
-- Assumes nothing.
use Rattle.gcm.specs.Gcm.{tag_of}
use Rattle.gcm.proofs.Blocks.{bytes_written}
use Rattle.gcm.proofs.tag_of.Goals as goal

pub returns : goal.returns
unfolding tag_of
returns c key e = simp (c.stream.ensures key e, c.pre_counter.ensures, c.to_be_bytes-hash.ensures, bytes_written, c.digest.ensures, c.hash_key.ensures key e)

-- How long an HMAC is, and that each of it is a byte.
-- Assumes nothing.
use Rattle.std.proofs.Common.{◌≡◌, List, ◌++◌, length, ℕ}
use Rattle.cells.specs.Runs.{Bytes}
use Rattle.hashes.specs.declared.Hash.{Hash}
use Rattle.hashes.specs.Hashes.{digest_size}
use Rattle.sha_2.specs.Hash.{block_size, sha2}
use Rattle.sha_2.proofs.Output.{length_sha2, bytes_sha2}
use Rattle.hmac.specs.Hmac.{inner_key, outer_key, hmac, hmac_of}

pub length_hmac : (h : Hash) (key text : List ℕ) → length (hmac_of h key text) ≡ digest_size h
unfolding hmac
length_hmac h key text = length_sha2 h (outer_key (sha2 h) (block_size h) key ++ sha2 h (inner_key (sha2 h) (block_size h) key ++ text))

pub bytes_hmac : (h : Hash) (key text : List ℕ) → Bytes (hmac_of h key text)
unfolding hmac
bytes_hmac h key text = bytes_sha2 h (outer_key (sha2 h) (block_size h) key ++ sha2 h (inner_key (sha2 h) (block_size h) key ++ text))

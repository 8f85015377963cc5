-- Which message a state has taken in.
-- Assumes nothing.
use Rattle.std.specs.Prelude.{◌≡◌, ℕ, ◌+◌, ◌*◌, ◌/◌, ◌%◌, List, ◌++◌, length, take, drop}
use Rattle.hashes.specs.declared.Hash.{Hash}
use Rattle.sha_2.specs.declared.State.{State}
use Rattle.sha_2.specs.Constants.{initial}
use Rattle.sha_2.specs.Hash.{block_size, after_blocks}

-- The state is one of the hash h, counts the bytes of m, has the hash value after its whole blocks, and its tail begins with the bytes after them.
pub record Taken (h : Hash) (s : State) (m : List ℕ) : Type 0 where
  pub is : s.hash ≡ h
  pub counted : s.length ≡ length m
  pub hashed : s.value ≡ after_blocks h (initial h) m (length m / block_size h)
  pub kept : take (length m % block_size h) s.tail ≡ drop (block_size h * (length m / block_size h)) m

-- s took in part and became r: whatever message s had taken in, r has taken in that message and then part.
pub record TookIn (s : State) (part : List ℕ) (r : State) : Type 0 where
  pub is : r.hash ≡ s.hash
  pub counted : r.length ≡ s.length + length part
  pub appended : (h : Hash) (m : List ℕ) → Taken h s m → Taken h r (m ++ part)

-- An invariant of the code: a block's rounds so far, and the sixteen words that the next ones need.
-- Assumes nothing.
use Rattle.std.specs.Prelude.{◌≡◌, ℕ, ◌+◌, ◌%◌, ◌<◌, ◌≤◌, List, length, slice_index}
use Rattle.hashes.specs.declared.Hash.{Hash}
use Rattle.sha_2.specs.Numbers.{Numbers}
use Rattle.sha_2.specs.Constants.{K}
use Rattle.sha_2.specs.Block.{turns, schedule, rounds}

-- v has gone through rounds 0 to t - 1 from v0 on, and w holds the last sixteen words that they used, word i of the schedule in place i % 16
pub record Turned (h : Hash) (block : List ℕ) (v0 : Numbers) (t : ℕ) (v : Numbers) (w : List ℕ) : Type 0 where
  pub long : length w ≡ 16
  pub words : (i : ℕ) → i < t → t ≤ i + 16 → slice_index w (i % 16) ≡ slice_index (schedule h block (turns h)) i
  pub variables : v ≡ rounds h (K h) (schedule h block (turns h)) v0 t

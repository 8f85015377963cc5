-- Words of 32 bits kept in words of 64.
-- Assumes nothing.
use Rattle.std.specs.Prelude.{◌^◌, ◌<◌}
use Rattle.hashes.specs.declared.Hash.{Hash}
use Rattle.sha_2.specs.Numbers.{Numbers}
use Rattle.sha_2.specs.Word.{bits}

-- each is a word of the hash
pub record Fit (hash : Hash) (v : Numbers) : Type 0 where
  pub a : v.a < 2 ^ bits hash
  pub b : v.b < 2 ^ bits hash
  pub c : v.c < 2 ^ bits hash
  pub d : v.d < 2 ^ bits hash
  pub e : v.e < 2 ^ bits hash
  pub f : v.f < 2 ^ bits hash
  pub g : v.g < 2 ^ bits hash
  pub h : v.h < 2 ^ bits hash

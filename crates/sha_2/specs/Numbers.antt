-- Eight words of a hash as numbers.
-- Assumes nothing.
use Rattle.std.specs.Prelude.{ℕ}
use Rattle.sha_2.specs.declared.words.Words.{Words}

abbrev pub Numbers : Type 0
Numbers = Words ℕ

-- words as numbers, by the value of each
abbrev pub numbers : {W : Type 0} → (W → ℕ) → Words W → Numbers
numbers value v =
    record {
      a = value v.a;
      b = value v.b;
      c = value v.c;
      d = value v.d;
      e = value v.e;
      f = value v.f;
      g = value v.g;
      h = value v.h;
    }

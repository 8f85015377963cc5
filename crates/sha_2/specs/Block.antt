-- The hash value after one more block: FIPS 180-4, 5.2, 6.2.2 and 6.4.2.
-- Assumes nothing.
use Rattle.std.specs.Prelude.{ℕ, zero, suc, ◌-◌, ◌*◌, Bool, true, false, List, [], ◌∷◌, ◌++◌, nat_lt, slice_index}
use Rattle.cells.specs.Numbers.{number}
use Rattle.cells.specs.Runs.{part}
use Rattle.hashes.specs.declared.Hash.{Hash}
use Rattle.hashes.specs.declared.Hash.TheVariants.{Sha256, Sha512}
use Rattle.sha_2.specs.Numbers.{Numbers}
use Rattle.sha_2.specs.Word.{width, ◌⊞⟨◌⟩◌, Ch, Maj, Σ0, Σ1, σ0, σ1}
use Rattle.sha_2.specs.Constants.{K}

-- rounds, and words in the schedule
abbrev pub turns : Hash → ℕ
turns Sha256 = 64
turns Sha512 = 80

-- 5.2: word t of a block of sixteen words
abbrev pub M : Hash → List ℕ → ℕ → ℕ
M h block t = number (part block (width h * t) (width h))

-- step 1: W t by W (t - 2), W (t - 7), W (t - 15) and W (t - 16)
unfoldable pub mix : Hash → ℕ → ℕ → ℕ → ℕ → ℕ
mix h w2 w7 w15 w16 = σ1 h w2 ⊞⟨ h ⟩ w7 ⊞⟨ h ⟩ σ0 h w15 ⊞⟨ h ⟩ w16

-- word t of the schedule, where 16 ≤ t, by the words ws before it
abbrev pub mixed : Hash → List ℕ → ℕ → ℕ
mixed h ws t = mix h (slice_index ws (t - 2)) (slice_index ws (t - 7)) (slice_index ws (t - 15)) (slice_index ws (t - 16))

abbrev pick : Bool → ℕ → ℕ → ℕ
pick true x y = x
pick false x y = y

-- step 1: the message schedule W, its words 0 to t - 1
unfoldable pub schedule : Hash → List ℕ → ℕ → List ℕ
schedule h block zero = []
schedule h block (suc t) = schedule h block t ++ (pick (nat_lt t 16) (M h block t) (mixed h (schedule h block t) t) ∷ [])

-- step 3: one round, with K t and W t
unfoldable pub T1 : Hash → Numbers → ℕ → ℕ → ℕ
T1 h v k w = v.h ⊞⟨ h ⟩ Σ1 h v.e ⊞⟨ h ⟩ Ch h v.e v.f v.g ⊞⟨ h ⟩ k ⊞⟨ h ⟩ w

unfoldable pub T2 : Hash → Numbers → ℕ
T2 h v = Σ0 h v.a ⊞⟨ h ⟩ Maj v.a v.b v.c

unfoldable pub round_of : Hash → Numbers → ℕ → ℕ → Numbers
round_of h v k w =
    record { a = T1 h v k w ⊞⟨ h ⟩ T2 h v; b = v.a; c = v.b; d = v.c; e = v.d ⊞⟨ h ⟩ T1 h v k w; f = v.e; g = v.f; h = v.g }

-- the rounds 0 to t - 1
unfoldable pub rounds : Hash → List ℕ → List ℕ → Numbers → ℕ → Numbers
rounds h ks ws v zero = v
rounds h ks ws v (suc t) = round_of h (rounds h ks ws v t) (slice_index ks t) (slice_index ws t)

-- step 4: the working variables added to the hash value
unfoldable pub sum_of : Hash → Numbers → Numbers → Numbers
sum_of h v x =
    record {
      a = v.a ⊞⟨ h ⟩ x.a;
      b = v.b ⊞⟨ h ⟩ x.b;
      c = v.c ⊞⟨ h ⟩ x.c;
      d = v.d ⊞⟨ h ⟩ x.d;
      e = v.e ⊞⟨ h ⟩ x.e;
      f = v.f ⊞⟨ h ⟩ x.f;
      g = v.g ⊞⟨ h ⟩ x.g;
      h = v.h ⊞⟨ h ⟩ x.h;
    }

-- the hash value v after a block
unfoldable pub after_block : Hash → Numbers → List ℕ → Numbers
after_block h v block = sum_of h v (rounds h (K h) (schedule h block (turns h)) v (turns h))

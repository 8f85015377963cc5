-- A mask names the hash that it was made for, and a setup chooses the longest hash that both sides have.
-- Assumes nothing.
use mathlib.Core.Path.{◌≡◌, refl, sym, ap, ◌∙◌}
use mathlib.Core.Bool.{Bool, true, false, true≢false, cond, ◌&&◌, ◌||◌}
use Prim.Native.Nat.{ℕ, ◌≤◌, ◌<◌}
use native.Mathlib.Omega.{arith}
use lib.Dec.{eqb}
use borrow.Author.Tests.{eqb-true}
use Rattle.hashes.specs.declared.Hash.{Hash}
use Rattle.hashes.specs.declared.Hash.TheVariants.{Sha256, Sha512}
use Rattle.hashes.specs.Hashes.{hash_mask, digest_size, has, names_one, named, allowed_one, in_common, chosen}

-- the mask of a hash names that hash, and no other does
pub mask_named : (h : Hash) → named (hash_mask h) ≡ h
unfolding named
mask_named Sha256 = refl
mask_named Sha512 = refl

pub mask_tells : (g h : Hash) → hash_mask g ≡ hash_mask h → g ≡ h
mask_tells g h e = sym (mask_named g) ∙ ap named e ∙ mask_named h

pub named_mask : (m : ℕ) → names_one m ≡ true → hash_mask (named m) ≡ m
unfolding named
named_mask m = by (eqb m 1) refl (eqb m 4) refl
  where
    by : (a : Bool) → eqb m 1 ≡ a → (b : Bool) → eqb m 4 ≡ b → a || b ≡ true → hash_mask (cond a Sha256 Sha512) ≡ m
    by true e b f h = sym (eqb-true m 1 e)
    by false e true f h = sym (eqb-true m 4 f)
    by false e false f h = absurd (true≢false (sym h))

-- an allowed one names a hash
pub allowed_names : (hashes m : ℕ) → allowed_one hashes m ≡ true → names_one m ≡ true
unfolding allowed_one
allowed_names hashes m = by (eqb m 1) (eqb m 4) (has Sha256 hashes) (has Sha512 hashes)
  where
    by : (a b x y : Bool) → (a && x) || (b && y) ≡ true → a || b ≡ true
    by true b x y h = refl
    by false true x y h = refl
    by false false x y h = h

-- the mask of an allowed hash is an allowed one
pub allowed_mask : (h : Hash) (hashes : ℕ) → has h hashes ≡ true → allowed_one hashes (hash_mask h) ≡ true
unfolding allowed_one
allowed_mask Sha256 hashes e = rw e
allowed_mask Sha512 hashes e = e

-- where a hash is allowed, orders that allow it alone allow its mask and no other of theirs
pub allowed_alone : (h : Hash) (hashes m : ℕ) → has h hashes ≡ true → allowed_one (hash_mask h) m ≡ (allowed_one hashes m && eqb m (hash_mask h))
unfolding allowed_one
allowed_alone Sha256 hashes m e = rw e (by (eqb m 1) (eqb m 4) (has Sha512 hashes))
  where
    by : (a b y : Bool) → ((a && true) || (b && false)) ≡ (((a && true) || (b && y)) && a)
    by true b y = refl
    by false true true = refl
    by false true false = refl
    by false false y = refl
allowed_alone Sha512 hashes m e = rw e (by (eqb m 1) (eqb m 4) (has Sha256 hashes))
  where
    by : (a b x : Bool) → ((a && false) || (b && true)) ≡ (((a && x) || (b && true)) && b)
    by true true true = refl
    by true true false = refl
    by true false true = refl
    by true false false = refl
    by false true x = refl
    by false false x = refl

-- the chosen hash is one that both sides have, and no longer one is
pub chosen_common : (offered hashes : ℕ) → in_common offered hashes ≡ true
    → (has (chosen offered hashes) offered ≡ true) × (has (chosen offered hashes) hashes ≡ true)
unfolding in_common chosen
chosen_common offered hashes h =
    by (has Sha256 offered) refl (has Sha256 hashes) refl (has Sha512 offered) refl (has Sha512 hashes) refl h
  where
    by : (a : Bool) → has Sha256 offered ≡ a → (b : Bool) → has Sha256 hashes ≡ b → (x : Bool) → has Sha512 offered ≡ x → (y : Bool) → has Sha512 hashes ≡ y
        → (a && b) || (x && y) ≡ true
        → (has (cond (x && y) Sha512 Sha256) offered ≡ true) × (has (cond (x && y) Sha512 Sha256) hashes ≡ true)
    by a e b f true k true l h = (k, l)
    by true e true f true k false l h = (e, f)
    by true e true f false k y l h = (e, f)
    by true e false f true k false l h = absurd (true≢false (sym h))
    by true e false f false k y l h = absurd (true≢false (sym h))
    by false e b f true k false l h = absurd (true≢false (sym h))
    by false e b f false k y l h = absurd (true≢false (sym h))

pub chosen_longest : (offered hashes : ℕ) → has Sha512 offered ≡ true → has Sha512 hashes ≡ true → chosen offered hashes ≡ Sha512
unfolding chosen
chosen_longest offered hashes e f = rw (e, f)

-- a mask is a byte
pub mask_small : (h : Hash) → hash_mask h < 256
mask_small Sha256 = omega arith
mask_small Sha512 = omega arith

-- room for either digest
pub digest_fits : (h : Hash) → (1 ≤ digest_size h) × (digest_size h ≤ 64)
digest_fits Sha256 = (omega arith, omega arith)
digest_fits Sha512 = (omega arith, omega arith)

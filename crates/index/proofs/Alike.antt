-- Tables whose records have the same marks and IVs: one index fits both.
-- Assumes nothing.
use mathlib.Core.Path.{◌≡◌, refl, sym, ap, ap₂, ◌∙◌}
use mathlib.Core.List.{List, [], ◌∷◌}
use Prim.Native.Nat.{ℕ, zero, suc}
use native.Mathlib.Omega.{arith}
use lib.ListN.{length, get_or}
use Rattle.table.specs.declared.session.Record.{Record}
use Rattle.table.specs.Record.{freed}
use Rattle.index.specs.Index.{precedes, among, ranked_to, filled, coded, index_of}
use Rattle.index.specs.Fits.{Fits}

-- records with the same marks and IVs have one index
module _ (before after : List Record) (long : length before ≡ length after)
    (marks : (p : ℕ) → (get_or before p freed).used ≡ (get_or after p freed).used) (ivs : (p : ℕ) → (get_or before p freed).iv ≡ (get_or after p freed).iv) where
  among_same : (place : ℕ) (ps : List ℕ) → among before place ps ≡ among after place ps
  unfolding among
  among_same place [] = refl
  among_same place (p ∷ ps) = rw (ivs p, ivs place, among_same place ps)

  ranked_same : (n : ℕ) → ranked_to before n ≡ ranked_to after n
  unfolding ranked_to
  ranked_same zero = refl
  ranked_same (suc n) = rw (marks n, ranked_same n, among_same n (ranked_to after n))

  pub index_same : index_of before ≡ index_of after
  unfolding index_of
  index_same = ap₂ (λ (n : ℕ) (ps : List ℕ). coded (filled n ps)) long (ranked_same (length before) ∙ ap (ranked_to after) long)

  pub fits_same : {index : List ℕ} → Fits before index → Fits after index
  fits_same f = record {
    ps = f.ps;
    used = λ p s. let u = f.used p s in (omega (arith, u.0), sym (marks p) ∙ u.1);
    all = λ p u. f.all p (omega (arith, u.0), marks p ∙ u.1);
    rising = λ i j l m. ap₂ precedes (sym (ivs (get_or f.ps i 0))) (sym (ivs (get_or f.ps j 0))) ∙ f.rising i j l m;
    bytes = f.bytes ∙ ap (λ (n : ℕ). coded (filled n f.ps)) long;
  }

-- The places of the used records after one was freed or taken.
-- Assumes nothing.
use mathlib.Core.Path.{◌≡◌, sym, ap, ◌∙◌}
use mathlib.Core.List.{List}
use mathlib.Core.Logic.{◌⊎◌, inl, inr, ⊎_elim}
use mathlib.Core.Bool.{true≢false}
use Prim.Native.Nat.{ℕ, ◌<◌}
use native.Mathlib.Omega.{arith}
use lib.ListN.{length, get_or, set, length-set}
use lib.Seq.{set-get_or}
use Rattle.std.specs.Prelude.{None}
use Rattle.table.specs.declared.session.Record.{Record}
use Rattle.table.specs.Record.{freed}
use Rattle.table.specs.Table.{found}
use Rattle.table.specs.WellFormed.{Sound, WellFormed}
use Rattle.table.proofs.Tests.{used_holds}
use Rattle.table.proofs.Meaning.{freed_sound}
use Rattle.table.proofs.Found.{found_nowhere}
use Rattle.table.proofs.Stored.{stored_here, stored_other, equal_or_not, stored_well, alone_new}
use Rattle.index.specs.Index.{among, ranked}
use Rattle.index.specs.Fits.{UsedAt}
use Rattle.index.proofs.Precedence.{precedes_trans, follows}
use Rattle.index.proofs.Ranked.{In, Sorted, Rises, removed, removed_in, removed_rest, removed_sorted, removed_other, sorted_map, in_among, among_in, sorted_among, in_ranked, ranked_in, ranked_rises, rising_one}

module _ (table : List Record) (place : ℕ) (r : Record) (within : place < length table) where
  -- places other than that one rise as before
  kept_rises : (ps : List ℕ) → ((p : ℕ) → In p ps → p ≡ place → ⊥) → Sorted (Rises table) ps → Sorted (Rises (set table place r)) ps
  kept_rises ps other = sorted_map (Rises table) (Rises (set table place r)) ps (λ p q i j e.
      rw (stored_other table place r within p (other p i), stored_other table place r within q (other q j)) e)

  kept_used : (p : ℕ) → (p ≡ place → ⊥) → UsedAt table p → UsedAt (set table place r) p
  kept_used p other u = (rw (length-set) u.0, rw (stored_other table place r within p other) u.1)

  used_kept : (p : ℕ) → (p ≡ place → ⊥) → UsedAt (set table place r) p → UsedAt table p
  used_kept p other u = (rw (length-set) at u.0, rw (stored_other table place r within p other) at u.1)

unused : (x : Record) → x ≡ freed → x.used ≡ 1 → ⊥
unused x e u = let z = ap (λ (y : Record). y.used) e in omega arith

-- a freed record's place is taken out
module _ (table : List Record) (w : WellFormed table) (place : ℕ) (within : place < length table) where
  pub freed_well : WellFormed (set table place freed)
  freed_well = stored_well table place freed within w freed_sound (λ u. absurd (omega arith))

  pub freed_ranked : (at : ℕ) → at < length (ranked table) → get_or (ranked table) at 0 ≡ place → removed at (ranked table) ≡ ranked (set table place freed)
  freed_ranked at l e =
      rising_one (set table place freed) (removed at (ranked table)) (ranked (set table place freed))
      (kept_rises table place freed within (removed at (ranked table)) other (removed_sorted (Rises table) (ranked table) at rises))
      (ranked_rises (set table place freed) freed_well.apart (length (set table place freed)) (omega arith))
      (λ p i.
      let u = kept_used table place freed within p (other p i) (in_ranked table (length table) p (removed_in (ranked table) at p i)) in
      ranked_in (set table place freed) (length (set table place freed)) p u.0 u.1)
      (λ p i.
      let u = in_ranked (set table place freed) (length (set table place freed)) p i in
      let v = used_kept table place freed within p (unfreed p u.1) u in
      removed_rest (ranked table) at p (ranked_in table (length table) p v.0 v.1) (λ f. unfreed p u.1 (f ∙ e)))
    where
      rises : Sorted (Rises table) (ranked table)
      rises = ranked_rises table w.apart (length table) (omega arith)

      other : (p : ℕ) → In p (removed at (ranked table)) → p ≡ place → ⊥
      other p i f = removed_other table (ranked table) at p l rises i (f ∙ sym e)

      unfreed : (p : ℕ) → (get_or (set table place freed) p freed).used ≡ 1 → p ≡ place → ⊥
      unfreed p u f = unused _ (ap (λ (k : ℕ). get_or (set table place freed) k freed) f ∙ stored_here table place freed within) u

  -- one that is free is as it was
  pub freed_free : ((get_or table place freed).used ≡ 1 → ⊥) → set table place freed ≡ table
  freed_free n =
      let s = w.each place within in
      ⊎_elim (λ z. ap (set table place) (sym (s.free z)) ∙ set-get_or table place freed) (λ u. absurd (n u)) s.used

-- a place that was free, with the record of a new session, is put among the others
module _ (table : List Record) (w : WellFormed table) (place : ℕ) (r : Record) (within : place < length table)
    (free : get_or table place freed ≡ freed) (u : r.used ≡ 1) (s : Sound r) (new : found table r.iv ≡ None) where
  pub taken_well : WellFormed (set table place r)
  taken_well = stored_well table place r within w s (alone_new table place r new)

  other : (p : ℕ) → In p (ranked table) → p ≡ place → ⊥
  other p i e = unused _ (ap (λ (k : ℕ). get_or table k freed) e ∙ free) (in_ranked table (length table) p i).1

  pub rises : Sorted (Rises (set table place r)) (ranked table)
  rises = kept_rises table place r within (ranked table) other (ranked_rises table w.apart (length table) (omega arith))

  pub used : (p : ℕ) → In p (ranked table) → UsedAt (set table place r) p
  used p i = kept_used table place r within p (other p i) (in_ranked table (length table) p i)

  pub here : get_or (set table place r) place freed ≡ r
  here = stored_here table place r within

  -- its IV is its own
  pub own : (p : ℕ) → In p (ranked table) → (get_or (set table place r) p freed).iv ≡ (get_or (set table place r) place freed).iv → ⊥
  own p i e =
      let v = in_ranked table (length table) p i in
      let is : (get_or table p freed).iv ≡ r.iv = ap (λ (x : Record). x.iv) (sym (stored_other table place r within p (other p i))) ∙ e ∙ ap (λ (x : Record). x.iv) here in
      true≢false (sym (used_holds r.iv (get_or table p freed) v.1 is) ∙ found_nowhere table r.iv new p v.0)

  pub taken_ranked : among (set table place r) place (ranked table) ≡ ranked (set table place r)
  taken_ranked =
      rising_one (set table place r) (among (set table place r) place (ranked table)) (ranked (set table place r))
      (sorted_among (set table place r) place (Rises (set table place r)) (λ a b c. precedes_trans _ _ _) (ranked table) (λ q i f. f) (λ q i f. follows _ _ f (own q i)) rises)
      (ranked_rises (set table place r) taken_well.apart (length (set table place r)) (omega arith))
      (λ p i. let v = ⊎_elim (λ e. (rw length-set (rw e within), ap (λ (k : ℕ). (get_or (set table place r) k freed).used) e ∙ ap (λ (x : Record). x.used) here ∙ u)) (used p) (in_among (set table place r) place (ranked table) p i) in
      ranked_in (set table place r) (length (set table place r)) p v.0 v.1)
      (λ p i. among_in (set table place r) place (ranked table) p (back p (in_ranked (set table place r) (length (set table place r)) p i)))
    where
      back : (p : ℕ) → UsedAt (set table place r) p → (p ≡ place) ⊎ In p (ranked table)
      back p v =
          ⊎_elim inl (λ n. let q = used_kept table place r within p n v in inr (ranked_in table (length table) p q.0 q.1)) (equal_or_not p place)

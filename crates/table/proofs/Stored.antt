-- A table with one record stored or freed: it stays well formed, no other record changes, and what is found afterwards under each IV.
-- Assumes nothing.
use mathlib.Core.Path.{◌≡◌, sym, ap, subst, ◌∙◌}
use mathlib.Core.List.{List}
use mathlib.Core.Logic.{◌⊎◌, inl, inr}
use mathlib.Core.Bool.{true≢false}
use Prim.Native.Nat.{ℕ, ◌<◌}
use native.Mathlib.Decide.{ℕ_discrete}
use lib.ListN.{length, get_or, set, length-set}
use lib.Seq.{get_or-set_same, get_or-set_other}
use Rattle.std.specs.Prelude.{None}
use Rattle.table.specs.declared.session.Record.{Record}
use Rattle.table.specs.Record.{freed}
use Rattle.table.specs.Table.{holds, found}
use Rattle.table.specs.WellFormed.{Sound, WellFormed}
use Rattle.table.proofs.Tests.{used_holds}
use Rattle.table.proofs.Found.{scan_set, found_nowhere}

pub equal_or_not : (i j : ℕ) → (i ≡ j) ⊎ (i ≡ j → ⊥)
equal_or_not i j = elim (ℕ_discrete i j) [ yes e ↦ inl e | no n ↦ inr n ]

-- the IV of a used record stands at no other place
abbrev pub Alone : List Record → ℕ → Record → Type 0
Alone table i r =
    r.used ≡ 1 → (j : ℕ) → j < length table → (j ≡ i → ⊥) → (get_or table j freed).used ≡ 1 → (get_or table j freed).iv ≡ r.iv → ⊥

module _ (table : List Record) (i : ℕ) (r : Record) (h : i < length table) where
  -- the record stands at its place, and every other place keeps its own
  pub stored_here : get_or (set table i r) i freed ≡ r
  stored_here = get_or-set_same table i r freed h

  pub stored_other : (j : ℕ) → (j ≡ i → ⊥) → get_or (set table i r) j freed ≡ get_or table j freed
  stored_other j n = get_or-set_other table i j r freed n

  -- a sound record whose IV stands nowhere else keeps the table well formed
  pub stored_well : WellFormed table → Sound r → Alone table i r → WellFormed (set table i r)
  stored_well w s a = record { each = λ j l. each j (rw length-set at l) (equal_or_not j i); apart = λ j k l m. apart j k (rw length-set at l) (rw length-set at m) (equal_or_not j i) (equal_or_not k i) }
    where
      each : (j : ℕ) → j < length table → (j ≡ i) ⊎ (j ≡ i → ⊥) → Sound (get_or (set table i r) j freed)
      each j l (inl e) = subst (λ (x : Record). Sound x) (sym (ap (λ (k : ℕ). get_or (set table i r) k freed) e ∙ stored_here)) s
      each j l (inr n) = subst (λ (x : Record). Sound x) (sym (stored_other j n)) (w.each j l)

      clash : (j k : ℕ) → k < length table → j ≡ i → (k ≡ i → ⊥) → (get_or (set table i r) j freed).used ≡ 1 → (get_or (set table i r) k freed).used ≡ 1
          → (get_or (set table i r) j freed).iv ≡ (get_or (set table i r) k freed).iv → ⊥
      clash j k m p q u v e =
          let here = ap (λ (n : ℕ). get_or (set table i r) n freed) p ∙ stored_here in
          let there = stored_other k q in
          a (sym (ap (λ (x : Record). x.used) here) ∙ u) k m q (sym (ap (λ (x : Record). x.used) there) ∙ v)
          (sym (ap (λ (x : Record). x.iv) there) ∙ sym e ∙ ap (λ (x : Record). x.iv) here)

      apart : (j k : ℕ) → j < length table → k < length table → (j ≡ i) ⊎ (j ≡ i → ⊥) → (k ≡ i) ⊎ (k ≡ i → ⊥)
          → (get_or (set table i r) j freed).used ≡ 1 → (get_or (set table i r) k freed).used ≡ 1
          → (get_or (set table i r) j freed).iv ≡ (get_or (set table i r) k freed).iv → j ≡ k
      apart j k l m (inl p) (inl q) u v e = p ∙ sym q
      apart j k l m (inl p) (inr q) u v e = absurd (clash j k m p q u v e)
      apart j k l m (inr p) (inl q) u v e = absurd (clash k j l q p v u (sym e))
      apart j k l m (inr p) (inr q) u v e =
          let here = stored_other j p in
          let there = stored_other k q in
          w.apart j k l m (sym (ap (λ (x : Record). x.used) here) ∙ u) (sym (ap (λ (x : Record). x.used) there) ∙ v)
          (sym (ap (λ (x : Record). x.iv) here) ∙ e ∙ ap (λ (x : Record). x.iv) there)

  -- what is found under an IV that the old and the new record both hold, or neither
  pub found_kept : (iv : List ℕ) → holds iv r ≡ holds iv (get_or table i freed) → found (set table i r) iv ≡ found table iv
  unfolding found
  found_kept iv e = scan_set (holds iv) 0 i r table e

-- the IV of a new record was not found
pub alone_new : (table : List Record) (i : ℕ) (r : Record) → found table r.iv ≡ None → Alone table i r
alone_new table i r e u j l n v p =
    true≢false (sym (used_holds r.iv (get_or table j freed) v p) ∙ found_nowhere table r.iv e j l)

-- the IV of a record in the place of one with the same IV
pub alone_same : (table : List Record) (i : ℕ) (r : Record) → WellFormed table → i < length table
    → (get_or table i freed).used ≡ 1 → (get_or table i freed).iv ≡ r.iv → Alone table i r
alone_same table i r w h v e u j l n x p = n (w.apart j i l h x v (p ∙ sym e))

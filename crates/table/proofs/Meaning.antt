-- The test for a well-formed table holds exactly of the well-formed tables.
-- Assumes nothing.
use mathlib.Core.Path.{◌≡◌, refl, sym, ap, subst, ◌∙◌}
use mathlib.Core.List.{List, [], ◌∷◌}
use mathlib.Core.Logic.{◌⊎◌, inl, inr, ⊎_elim}
use mathlib.Core.Bool.{Bool, true, false, true≢false, not, cond, ◌&&◌}
use Prim.Native.Nat.{ℕ, zero, suc, ◌<◌}
use native.Mathlib.Omega.{arith}
use borrow.Author.Tests.{eqb-true, eqb-false, eq-eqb, ne_eqb, not-true}
use lib.Dec.{eqb}
use lib.ListN.{length, get_or}
use Rattle.std.specs.Bool.{Decides}
use Rattle.window.specs.Window.{bit}
use Rattle.hashes.specs.Hashes.{names_one}
use Rattle.table.specs.declared.session.Record.{Record}
use Rattle.table.specs.Record.{freed}
use Rattle.cells.specs.Runs.{same}
use Rattle.table.specs.Table.{is_used, is_free, holds}
use Rattle.table.specs.WellFormed.{traceless, blank, window_sound, sound, some, fitting, well_formed, Sound, WellFormed}
use Rattle.table.proofs.Records.{alike}
use Rattle.cells.proofs.Equality.{same_equal}
use Rattle.cells.proofs.Tests.{tested, both}
use Rattle.table.proofs.Tests.{refuted, holds_used, used_holds}
use Rattle.table.proofs.Found.{some_passes, none_passes}

traceless_is : (r : Record) → traceless r ≡ true → (r.highest.0 ≡ 0) × (r.bits ≡ 0)
traceless_is r e =
    let parts = both _ _ e in
    (eqb-true r.highest.0 0 parts.0, eqb-true r.bits 0 parts.1)

blank_is : (r : Record) → r.used ≡ 0 → blank r ≡ true → r ≡ freed
blank_is r u e =
    let expiry = both _ _ e in
    let any = both _ _ expiry.1 in
    let hash = both _ _ any.1 in
    let rest = both _ _ hash.1 in
    let trace = traceless_is r rest.0 in
    alike freed u (same_equal r.iv freed.iv rest.1) (eqb-true r.expiry.0 0 expiry.0) (eqb-true r.any 0 any.0) trace.0 trace.1
    (eqb-true r.hash 0 hash.0)

hash_is : (r : Record) → names_one r.hash ≡ true → (r.hash ≡ 1) ⊎ (r.hash ≡ 4)
hash_is r e =
    tested (eqb r.hash 1) (λ t. inl (eqb-true r.hash 1 t)) (λ t. inr (eqb-true r.hash 4 (rw t at e)))

used_is : (r : Record) → r.used ≡ 1 → names_one r.hash ≡ true → window_sound r ≡ true → Sound r
used_is r u h e = by (eqb r.any 0) refl e
  where
    by : (t : Bool) → eqb r.any 0 ≡ t → cond t (traceless r) (eqb r.any 1 && bit r.bits 0) ≡ true → Sound r
    by true p f = record {
      used = inr u;
      any = inl (eqb-true r.any 0 p);
      free = λ z. absurd (omega arith);
      new = λ z. traceless_is r f;
      lowest = λ o q. absurd (omega (arith, eqb-true r.any 0 p));
      hash = λ o. hash_is r h;
    }
    by false p f =
        let parts = both _ _ f in
        record {
          used = inr u;
          any = inr (eqb-true r.any 1 parts.0);
          free = λ z. absurd (omega arith);
          new = λ z. absurd (eqb-false r.any 0 p z);
          lowest = λ o q. parts.1;
          hash = λ o. hash_is r h;
        }

-- of the free record
pub freed_sound : Sound freed
freed_sound =
    record { used = inl refl; any = inl refl; free = λ z. refl; new = λ z. (refl, refl); lowest = λ o q. absurd (omega arith); hash = λ o. absurd (omega arith) }

-- of one record
pub sound_is : (r : Record) → sound r ≡ true → Sound r
unfolding sound
sound_is r e = by (is_free r) refl e
  where
    by : (t : Bool) → is_free r ≡ t → cond t (blank r) (is_used r && (names_one r.hash && window_sound r)) ≡ true → Sound r
    by true p f = subst (λ (x : Record). Sound x) (sym (blank_is r (eqb-true r.used 0 p) f)) freed_sound
    by false p f =
        let parts = both _ _ f in
        let rest = both _ _ parts.1 in
        used_is r (eqb-true r.used 1 parts.0) rest.0 rest.1

pub is_sound : (r : Record) → Sound r → sound r ≡ true
unfolding sound same
is_sound r s = ⊎_elim (λ u. ap sound (s.free u)) used s.used
  where
    window : (r.any ≡ 0) ⊎ (r.any ≡ 1) → r.used ≡ 1 → window_sound r ≡ true
    window (inl a) u =
        rw (eq-eqb r.any 0 a, eq-eqb r.highest.0 0 (s.new a).0, eq-eqb r.bits 0 (s.new a).1)
    window (inr a) u =
        rw (ne_eqb r.any 0 (λ z. omega arith), eq-eqb r.any 1 a) (s.lowest u a)

    one : (r.hash ≡ 1) ⊎ (r.hash ≡ 4) → names_one r.hash ≡ true
    one (inl h) = rw h
    one (inr h) = rw h

    used : r.used ≡ 1 → cond (is_free r) (blank r) (is_used r && (names_one r.hash && window_sound r)) ≡ true
    used u = rw (ne_eqb r.used 0 (λ z. omega arith), eq-eqb r.used 1 u, one (s.hash u)) (window s.any u)

-- of the free record alone among those marked as free
pub free_decides : (r : Record) → r.used ≡ 0 → Decides (sound r) (r ≡ freed)
free_decides r u = (λ e. (sound_is r e).free u, λ e. is_sound r (subst (λ (x : Record). Sound x) (sym e) freed_sound))

-- a table's first record, and the rest
module _ (r : Record) (rs : List Record) where
  fitting_parts : fitting r rs ≡ true → (sound r ≡ true) × (r.used ≡ 1 → some (holds r.iv) rs ≡ false)
  unfolding fitting
  fitting_parts e =
      let parts = both _ _ e in
      (parts.0, λ u. not-true (some (holds r.iv) rs) (rw (eq-eqb r.used 1 u) at parts.1))

  fits : sound r ≡ true → (r.used ≡ 1 → some (holds r.iv) rs ≡ false) → fitting r rs ≡ true
  unfolding fitting
  fits e f = by (is_used r) refl
    where
      by : (t : Bool) → is_used r ≡ t → (sound r && not (t && some (holds r.iv) rs)) ≡ true
      by true p = rw (e, f (eqb-true r.used 1 p))
      by false p = rw e

-- of a table
pub well_formed_is : (table : List Record) → well_formed table ≡ true → WellFormed table
unfolding well_formed
well_formed_is [] e = record { each = λ i h. absurd (omega arith); apart = λ i j h k u v p. absurd (omega arith) }
well_formed_is (r ∷ rs) e =
    let parts = both (fitting r rs) (well_formed rs) e in
    whole (well_formed_is rs parts.1) (fitting_parts r rs parts.0)
  where
    whole : WellFormed rs → (sound r ≡ true) × (r.used ≡ 1 → some (holds r.iv) rs ≡ false) → WellFormed (r ∷ rs)
    whole w f = record { each = each; apart = apart }
      where
        each : (i : ℕ) → i < length (r ∷ rs) → Sound (get_or (r ∷ rs) i freed)
        each zero h = sound_is r f.0
        each (suc i) h = w.each i (omega arith)

        first : (j : ℕ) → j < length rs → r.used ≡ 1 → (get_or rs j freed).used ≡ 1 → r.iv ≡ (get_or rs j freed).iv → ⊥
        first j h u v p =
            true≢false (sym (some_passes (holds r.iv) j rs h (used_holds r.iv (get_or rs j freed) v (sym p))) ∙ f.1 u)

        apart : (i j : ℕ) → i < length (r ∷ rs) → j < length (r ∷ rs) → (get_or (r ∷ rs) i freed).used ≡ 1 → (get_or (r ∷ rs) j freed).used ≡ 1
            → (get_or (r ∷ rs) i freed).iv ≡ (get_or (r ∷ rs) j freed).iv → i ≡ j
        apart zero zero h k u v p = refl
        apart zero (suc j) h k u v p = absurd (first j (omega arith) u v p)
        apart (suc i) zero h k u v p = absurd (first i (omega arith) v u (sym p))
        apart (suc i) (suc j) h k u v p = ap suc (w.apart i j (omega arith) (omega arith) u v p)

pub is_well_formed : (table : List Record) → WellFormed table → well_formed table ≡ true
unfolding well_formed
is_well_formed [] w = refl
is_well_formed (r ∷ rs) w =
    rw (
      fits r rs (is_sound r (w.each 0 (omega arith))) (λ u. none_passes (holds r.iv) rs (λ j l. refuted (holds r.iv (get_or rs j freed)) (other u j l))),
      is_well_formed rs (record {
        each = λ i h. w.each (suc i) (omega arith);
        apart = λ i j h k u v p.
            let q = w.apart (suc i) (suc j) (omega arith) (omega arith) u v p in
            omega arith;
      }),
    )
  where
    other : r.used ≡ 1 → (j : ℕ) → j < length rs → holds r.iv (get_or rs j freed) ≡ true → ⊥
    other u j l e =
        let there = holds_used r.iv (get_or rs j freed) e in
        let q = w.apart 0 (suc j) (omega arith) (omega arith) u there.0 (sym there.1) in
        omega arith

-- What a table's records know of the sessions set up so far, of the nonces accepted in them and of their hashes, and that it stays so where a record is
-- freed, is taken by a new session, or takes a nonce.
-- Assumes nothing.
use mathlib.Core.Path.{◌≡◌, refl, sym, ap, subst, ◌∙◌}
use mathlib.Core.Logic.{⊎_elim}
use mathlib.Core.Bool.{Bool, true, false, true≢false, cond, ◌||◌}
use mathlib.Core.List.{List, [], ◌∷◌}
use mathlib.Core.Option.{Option, none, some}
use Prim.Native.Nat.{ℕ, ◌<◌, ◌^◌}
use native.Mathlib.Omega.{arith}
use lib.ListN.{length, get_or, set, replicate, length-set, length-replicate, get_or-replicate}
use Rattle.cells.specs.Runs.{same}
use Rattle.cells.proofs.Equality.{same_equal, same_self, same_not, same_comm}
use Rattle.hashes.specs.declared.Hash.{Hash}
use Rattle.hashes.specs.Hashes.{hash_mask}
use Rattle.window.specs.Window.{step_of}
use Rattle.window.specs.History.{is_accepted, keep}
use Rattle.window.proofs.Tracks.{Tracks, tracks_fresh, right}
use Rattle.table.specs.declared.session.Record.{Record}
use Rattle.std.specs.Prelude.{Some, None}
use Rattle.table.specs.Record.{Fits, freed, begun, window_of, with_window}
use Rattle.table.specs.Table.{holds, found}
use Rattle.table.specs.WellFormed.{Sound, WellFormed}
use Rattle.table.proofs.Records.{freed_fits}
use Rattle.table.proofs.Tests.{holds_used}
use Rattle.table.proofs.Found.{found_at, found_nowhere, nowhere_found}
use Rattle.table.proofs.Meaning.{freed_sound}
use Rattle.table.proofs.Stored.{equal_or_not, Alone, stored_here, stored_other, stored_well, found_kept, alone_new, alone_same}
use Rattle.table.proofs.Sessions.{begun_sound, begun_fits, stepped_sound, stepped_fits, window_of_with}
use Rattle.demands.specs.History.{Apart, iv_among}
use Rattle.demands.proofs.Shared.Named.{nowhere_at}
use Rattle.demands.proofs.Shared.Stored.{found_either}

-- a record's byte is the mask of a chosen hash
abbrev pub KeptBy : ℕ → Option Hash → Type 0
KeptBy byte none = ⊥
KeptBy byte (some h) = byte ≡ hash_mask h

-- the records, the IVs set up so far, and under each IV the nonces accepted so far and the hash that its latest setup chose
pub record Sessions (rs : List Record) (ivs : List (List ℕ)) (nonces : List ℕ → List ℕ) (hashes : List ℕ → Option Hash) : Type 0 where
  pub well : WellFormed rs
  pub fit : (i : ℕ) → i < length rs → Fits (get_or rs i freed)
  -- a session's window stands for the nonces accepted in it
  pub known : Apart ivs → (iv : List ℕ) (i : ℕ) → found rs iv ≡ Some i → Tracks (window_of (get_or rs i freed)) (nonces iv)
  -- a session's record keeps that hash
  pub keeps : (iv : List ℕ) (i : ℕ) → found rs iv ≡ Some i → KeptBy (get_or rs i freed).hash (hashes iv)
  -- under an IV that was not set up yet there is no session, and nothing was accepted
  pub new : Apart ivs → (iv : List ℕ) → iv_among ivs iv ≡ false → (found rs iv ≡ None) × (nonces iv ≡ [])

-- free records
pub free_sessions : (n : ℕ) → Sessions (replicate n freed) [] (λ iv. []) (λ iv. none)
free_sessions n = record {
  well = record {
    each = λ i h. subst (λ (r : Record). Sound r) (here i h) freed_sound;
    apart = λ i j h k u v e. absurd (omega (arith, ap (λ (r : Record). r.used) (here i h)));
  };
  fit = λ i h. subst (λ (r : Record). Fits r) (here i h) freed_fits;
  known = λ a iv i e. subst (λ (r : Record). Tracks (window_of r) []) (here i (found_at (replicate n freed) iv i e).0) tracks_fresh;
  keeps = λ iv i e.
      let at = found_at (replicate n freed) iv i e in
      absurd (true≢false (sym at.1 ∙ ap (holds iv) (sym (here i at.0))));
  new = λ a iv e. (nowhere_found (replicate n freed) iv (λ j h. ap (holds iv) (sym (here j h))), refl);
}
  where
    here : (i : ℕ) → i < length (replicate n freed) → freed ≡ get_or (replicate n freed) i freed
    here i h = sym (get_or-replicate n i freed freed (rw length-replicate at h))

module _ (rs : List Record) (i : ℕ) (r : Record) (h : i < length rs) where
  fit_stored : ((j : ℕ) → j < length rs → Fits (get_or rs j freed)) → Fits r → (j : ℕ) → j < length (set rs i r) → Fits (get_or (set rs i r) j freed)
  fit_stored fit f j l = ⊎_elim here there (equal_or_not j i)
    where
      here : j ≡ i → Fits (get_or (set rs i r) j freed)
      here e = subst (λ (x : Record). Fits x) (sym (ap (λ (k : ℕ). get_or (set rs i r) k freed) e ∙ stored_here rs i r h)) f

      there : (j ≡ i → ⊥) → Fits (get_or (set rs i r) j freed)
      there n = subst (λ (x : Record). Fits x) (sym (stored_other rs i r h j n)) (fit j (rw length-set at l))

  -- none is found where none was and the new record has another IV
  found_none : (iv : List ℕ) → found rs iv ≡ None → holds iv r ≡ false → found (set rs i r) iv ≡ None
  found_none iv e n = found_kept rs i r h iv (n ∙ sym (found_nowhere rs iv e i h)) ∙ e

  -- the sessions of a table with a record stored, from what they are under the IVs of the new record and of the others
  stored : (ivs : List (List ℕ)) (nonces : List ℕ → List ℕ) (hashes : List ℕ → Option Hash) → WellFormed rs → ((j : ℕ) → j < length rs → Fits (get_or rs j freed))
      → Fits r → Sound r → Alone rs i r
      → (Apart ivs → (iv : List ℕ) → holds iv r ≡ true → Tracks (window_of r) (nonces iv))
      → (Apart ivs → (iv : List ℕ) (j : ℕ) → (j ≡ i → ⊥) → found rs iv ≡ Some j → Tracks (window_of (get_or rs j freed)) (nonces iv))
      → ((iv : List ℕ) → holds iv r ≡ true → KeptBy r.hash (hashes iv))
      → ((iv : List ℕ) (j : ℕ) → (j ≡ i → ⊥) → found rs iv ≡ Some j → KeptBy (get_or rs j freed).hash (hashes iv))
      → (Apart ivs → (iv : List ℕ) → iv_among ivs iv ≡ false → (found rs iv ≡ None) × (holds iv r ≡ false) × (nonces iv ≡ []))
      → Sessions (set rs i r) ivs nonces hashes
  stored ivs nonces hashes w fit f s a here there Kept-here kept_there absent = record {
    well = stored_well rs i r h w s a;
    fit = fit_stored fit f;
    known = λ apart iv j e. ⊎_elim (own apart iv j) (other apart iv j) (found_either rs i r h iv j w e);
    keeps = λ iv j e. ⊎_elim (own_hash iv j) (other_hash iv j) (found_either rs i r h iv j w e);
    new = λ apart iv e.
        let n = absent apart iv e in
        (found_none iv n.0 n.1, n.2);
  }
    where
      own : Apart ivs → (iv : List ℕ) (j : ℕ) → (j ≡ i) × (holds iv r ≡ true) → Tracks (window_of (get_or (set rs i r) j freed)) (nonces iv)
      own apart iv j p =
          subst (λ (x : Record). Tracks (window_of x) (nonces iv))
          (sym (ap (λ (k : ℕ). get_or (set rs i r) k freed) p.0 ∙ stored_here rs i r h)) (here apart iv p.1)

      other : Apart ivs → (iv : List ℕ) (j : ℕ) → (j ≡ i → ⊥) × (found rs iv ≡ Some j) → Tracks (window_of (get_or (set rs i r) j freed)) (nonces iv)
      other apart iv j p =
          subst (λ (x : Record). Tracks (window_of x) (nonces iv)) (sym (stored_other rs i r h j p.0)) (there apart iv j p.0 p.1)

      own_hash : (iv : List ℕ) (j : ℕ) → (j ≡ i) × (holds iv r ≡ true) → KeptBy (get_or (set rs i r) j freed).hash (hashes iv)
      own_hash iv j p =
          subst (λ (x : Record). KeptBy x.hash (hashes iv)) (sym (ap (λ (k : ℕ). get_or (set rs i r) k freed) p.0 ∙ stored_here rs i r h)) (Kept-here iv p.1)

      other_hash : (iv : List ℕ) (j : ℕ) → (j ≡ i → ⊥) × (found rs iv ≡ Some j) → KeptBy (get_or (set rs i r) j freed).hash (hashes iv)
      other_hash iv j p =
          subst (λ (x : Record). KeptBy x.hash (hashes iv)) (sym (stored_other rs i r h j p.0)) (kept_there iv j p.0 p.1)

pub neither : (a b : Bool) → (a || b) ≡ false → (a ≡ false) × (b ≡ false)
neither true b e = absurd (true≢false e)
neither false b e = (refl, e)

module _ (rs : List Record) (ivs : List (List ℕ)) (nonces : List ℕ → List ℕ) (hashes : List ℕ → Option Hash) (s : Sessions rs ivs nonces hashes) where
  -- a record freed
  pub freed_sessions : (i : ℕ) → i < length rs → Sessions (set rs i freed) ivs nonces hashes
  freed_sessions i h =
      stored rs i freed h ivs nonces hashes s.well s.fit freed_fits freed_sound (λ u. absurd (omega arith))
      (λ apart iv e. absurd (true≢false (sym e)))
      (λ apart iv j n. s.known apart iv j)
      (λ iv e. absurd (true≢false (sym e)))
      (λ iv j n. s.keeps iv j)
      (λ apart iv e. ((s.new apart iv e).0, refl, (s.new apart iv e).1))

  -- a record taken by a new session
  pub begun_sessions : (i : ℕ) (iv : List ℕ) (expiry : ℕ) (hash : Hash) → i < length rs → found rs iv ≡ None → length iv ≡ 12 → expiry < 2 ^ 32
      → Sessions (set rs i (begun iv expiry (hash_mask hash))) (iv ∷ ivs) nonces (λ other. cond (same iv other) (some hash) (hashes other))
  begun_sessions i iv expiry hash h e long small =
      let r = begun iv expiry (hash_mask hash) in
      stored rs i r h (iv ∷ ivs) nonces (λ other. cond (same iv other) (some hash) (hashes other)) s.well s.fit (begun_fits iv expiry hash long small)
      (begun_sound iv expiry hash)
      (alone_new rs i r e)
      (λ apart other o.
      let none : nonces other ≡ [] = subst (λ (v : List ℕ). nonces v ≡ []) (same_equal iv other o) (s.new apart.1 iv apart.0).1 in
      rw none tracks_fresh)
      (λ apart other j n. s.known apart.1 other j)
      (λ other o. rw o refl)
      (λ other j n f. rw (same_not iv other (λ p. nowhere_at j (sym e ∙ ap (found rs) p ∙ f))) (s.keeps other j f))
      (λ apart other o.
      let parts = neither (same other iv) (iv_among ivs other) o in
      let old = s.new apart.1 other parts.1 in
      (old.0, same_comm iv other ∙ parts.0, old.1))

  -- a session's record with the window that accepted a nonce
  pub stepped_sessions : (i : ℕ) (iv : List ℕ) (n : ℕ) → found rs iv ≡ Some i → n < 2 ^ 32
      → is_accepted (step_of (window_of (get_or rs i freed)) n).verdict ≡ true
      → Sessions (set rs i (with_window (get_or rs i freed) (step_of (window_of (get_or rs i freed)) n).window)) ivs
      (λ other. keep (same iv other) n (nonces other)) hashes
  stepped_sessions i iv n e small passes =
      stored rs i new at.0 ivs (λ other. keep (same iv other) n (nonces other)) hashes s.well s.fit
      (stepped_fits old n (s.fit i at.0) small) (stepped_sound old n (s.well.each i at.0) used.0 passes)
      (alone_same rs i new s.well at.0 used.0 refl)
      (λ apart other o.
      subst (λ (v : List ℕ). Tracks (window_of new) (keep (same iv v) n (nonces v))) (sym used.1 ∙ (holds_used other new o).1)
      (rw (same_self iv, window_of_with old (step_of (window_of old) n).window)
      (rw passes at (right (window_of old) (nonces iv) (s.known apart iv i e) n).next)))
      (λ apart other j m f. rw (apart_from other j m f) (s.known apart other j f))
      (λ other o. subst (λ (v : List ℕ). KeptBy old.hash (hashes v)) (sym used.1 ∙ (holds_used other new o).1) (s.keeps iv i e))
      (λ other j m f. s.keeps other j f)
      (λ apart other o.
      let none = s.new apart other o in
      (none.0, found_nowhere rs other none.0 i at.0, rw (gone_from other none.0) none.1))
    where
      old : Record
      old = get_or rs i freed

      new : Record
      new = with_window old (step_of (window_of old) n).window

      at : (i < length rs) × (holds iv old ≡ true)
      at = found_at rs iv i e

      used : (old.used ≡ 1) × (old.iv ≡ iv)
      used = holds_used iv old at.1

      apart_from : (other : List ℕ) (j : ℕ) → (j ≡ i → ⊥) → found rs other ≡ Some j → same iv other ≡ false
      apart_from other j m f =
          same_not iv other
          (λ p.
          let q : Some j ≡ Some i = sym f ∙ ap (found rs) (sym p) ∙ e in
          m (cc))

      gone_from : (other : List ℕ) → found rs other ≡ None → same iv other ≡ false
      gone_from other f = same_not iv other (λ p. nowhere_at i (sym f ∙ sym (ap (found rs) p) ∙ e))

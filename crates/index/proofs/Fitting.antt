-- The test of a table and its index: it holds exactly if the table is well formed and the index is the one that fits it.
-- Assumes nothing.
use mathlib.Core.Path.{◌≡◌, refl, sym, ap, ap₂, subst, ◌∙◌}
use mathlib.Core.List.{List, [], ◌∷◌, ◌++◌}
use mathlib.Core.Bool.{Bool, true, false, true≢false, cond, ◌&&◌, and-true, and_assoc}
use Prim.Native.Nat.{ℕ, zero, suc, ◌+◌, ◌-◌, ◌*◌, ◌≤◌, ◌<◌}
use native.Mathlib.Numerals.{add-one}
use native.Mathlib.Omega.{arith}
use borrow.Author.Tests.{eqb-true, eqb-false, eq-eqb, ne_eqb}
use lib.Dec.{eqb}
use lib.ListN.{length, get_or, take, drop, replicate, length-drop, length-replicate, get_or-replicate, take-append-drop}
use lib.Seq.{length-take-le, get_or-take, get_or-drop, ext_get_or}
use Rattle.std.specs.List.{list_all}
use Rattle.cells.specs.Runs.{same, Bytes}
use Rattle.cells.proofs.Tests.{tested, both}
use Rattle.cells.proofs.Equality.{same_equal, same_self}
use Rattle.table.specs.declared.session.Record.{Record}
use Rattle.table.specs.Record.{freed}
use Rattle.table.specs.Table.{is_used}
use Rattle.table.specs.WellFormed.{well_formed}
use Rattle.table.proofs.Tests.{refuted}
use Rattle.table.proofs.Meaning.{sound_is, is_sound, well_formed_is, is_well_formed}
use Rattle.index.specs.Index.{lower, ranked, vacant, coded, index_of}
use Rattle.index.specs.Fits.{UsedAt}
use Rattle.index.specs.InnerEntries.{entry_at, used_at, rises_at, vacant_at, every, sound_at, used_to}
use Rattle.index.proofs.Precedence.{precedes_trans}
use Rattle.index.proofs.Ranked.{Sorted, Rises, In, in_stands, at_sorted, ranked_in, ranked_keeps, length_ranked, used_most, only_one, rising_apart}
use Rattle.index.proofs.Coded.{decoded, length_decoded, decoded_at, coded_decoded}
use Rattle.index.proofs.Held.{used_told, told_used, holds_used, holds_front, holds_rest, formed_holds}

pub every_at : (test : ℕ → Bool) (n : ℕ) → every test n ≡ true → (k : ℕ) → k < n → test k ≡ true
unfolding every
every_at test zero e k l = absurd (omega arith)
every_at test (suc n) e k l =
    let parts = both (every test n) (test n) e in
    tested (eqb k n) (λ f. ap test (eqb-true k n f) ∙ parts.1)
    (λ f. every_at test n parts.0 k (earlier f))
  where
    earlier : eqb k n ≡ false → k < n
    earlier f = let differ = eqb-false k n f in omega arith

at_every : (test : ℕ → Bool) (n : ℕ) → ((k : ℕ) → k < n → test k ≡ true) → every test n ≡ true
unfolding every
at_every test zero h = refl
at_every test (suc n) h = rw (at_every test n (λ k l. h k (omega arith)), h n (omega arith))

agree : (s t : Bool) → (s ≡ true → t ≡ true) → (t ≡ true → s ≡ true) → s ≡ t
agree true t there back = sym (there refl)
agree false true there back = back refl
agree false false there back = refl

-- a loop's turn and its ends
pub every_none : (test : ℕ → Bool) → every test 0 ≡ true
unfolding every
every_none test = refl

pub every_more : (test : ℕ → Bool) (k : ℕ) → every test k ≡ true → test k ≡ true → every test (k + 1) ≡ true
unfolding every
every_more test k e f = rw (add-one k, e, f)

pub every_not : (test : ℕ → Bool) (n k : ℕ) → k < n → test k ≡ false → every test n ≡ false
every_not test n k l e = refuted (every test n) (λ t. true≢false (sym (every_at test n t k l) ∙ e))

-- the first number apart
every_front : (test : ℕ → Bool) (n : ℕ) → (test 0 && every (λ k. test (suc k)) n) ≡ every test (suc n)
unfolding every
every_front test zero = and-true (test 0)
every_front test (suc n) =
    sym (and_assoc (test 0) (every (λ k. test (suc k)) n) (test (suc n))) ∙ ap (λ (b : Bool). b && test (suc n)) (every_front test n)

pub every_alike : (s t : ℕ → Bool) (n : ℕ) → ((k : ℕ) → k < n → s k ≡ t k) → every s n ≡ every t n
unfolding every
every_alike s t zero e = refl
every_alike s t (suc n) e = ap₂ ◌&&◌ (every_alike s t n (λ k l. e k (omega arith))) (e n (omega arith))

-- over a list, each of whose items passes if its number does
pub every_list : {A : Type 0} (p : A → Bool) (test : ℕ → Bool) (xs : List A) (n : ℕ) → length xs ≡ n
    → ((k : ℕ) (d : A) → k < n → p (get_or xs k d) ≡ test k) → list_all p xs ≡ every test n
unfolding every
every_list p test [] zero e h = refl
every_list p test [] (suc n) e h = absurd (omega (arith, e))
every_list p test (x ∷ xs) zero e h = absurd (omega (arith, e))
every_list p test (x ∷ xs) (suc n) e h =
    ap₂ ◌&&◌ (h 0 x (omega arith)) (every_list p (λ k. test (suc k)) xs n (omega (arith, e)) (λ k d l. h (suc k) d (omega arith)))
    ∙ every_front test n

-- the first entries of an index, and those behind them
pub entry_front : (index : List ℕ) (m k : ℕ) → k < m → entry_at (take (2 * m) index) k ≡ entry_at index k
entry_front index m k l =
    ap₂ (λ (x y : ℕ). x * 256 + y) (get_or-take (2 * m) index (2 * k) 0 (omega arith)) (get_or-take (2 * m) index (2 * k + 1) 0 (omega arith))

pub entry_behind : (index : List ℕ) (m k : ℕ) → entry_at (drop (2 * m) index) k ≡ entry_at index (m + k)
entry_behind index m k =
    ap₂ (λ (x y : ℕ). x * 256 + y)
    (get_or-drop (2 * m) index (2 * k) 0 ∙ ap (λ (i : ℕ). get_or index i 0) (omega arith))
    (get_or-drop (2 * m) index (2 * k + 1) 0 ∙ ap (λ (i : ℕ). get_or index i 0) (omega arith))

pub rises_front : (table : List Record) (index : List ℕ) (m k : ℕ) → k < m → rises_at table (take (2 * m) index) k ≡ rises_at table index k
unfolding rises_at
rises_front table index m k l = rw (entry_front index m k l, entry_front index m (k - 1) (omega arith))

-- how many records are used
pub used_none : (table : List Record) → used_to table 0 ≡ 0
unfolding used_to
used_none table = refl

pub used_more : (table : List Record) (i : ℕ) (t : Bool) → is_used (get_or table i freed) ≡ t
    → used_to table (i + 1) ≡ cond t (suc (used_to table i)) (used_to table i)
unfolding used_to
used_more table i t e = rw (add-one i, e)

-- entries of which each rises over the one before rise throughout
module _ (table : List Record) (index : List ℕ) where
  pub rises_unused : (k : ℕ) → used_at table (entry_at index k) ≡ false → rises_at table index k ≡ false
  unfolding rises_at
  rises_unused k e = rw e

  pub rises_later : (k : ℕ) → used_at table (entry_at index k) ≡ true → 1 ≤ k → rises_at table index k ≡ lower table (entry_at index (k - 1)) (entry_at index k)
  unfolding rises_at
  rises_later k e o = rw (e, ne_eqb k 0 (λ z. omega arith))

  step : (k : ℕ) → rises_at table index (suc k) ≡ true → lower table (entry_at index k) (entry_at index (suc k)) ≡ true
  unfolding rises_at
  step k e =
      let one : k ≡ suc k - 1 = omega arith in
      ap (λ (i : ℕ). lower table (entry_at index i) (entry_at index (suc k))) one
      ∙ sym (rises_later (suc k) (both (used_at table (entry_at index (suc k))) _ e).0 (omega arith)) ∙ e

  climbing : (count : ℕ) → every (rises_at table index) count ≡ true
      → (i j : ℕ) → i < j → j < count → lower table (entry_at index i) (entry_at index j) ≡ true
  climbing count e i zero l m = absurd (omega arith)
  climbing count e i (suc j) l m =
      let last = step j (every_at (rises_at table index) count e (suc j) m) in
      tested (eqb i j) (λ f. rw (eqb-true i j f) last)
      (λ f. precedes_trans _ _ _ (climbing count e i j (earlier f) (omega arith)) last)
    where
      earlier : eqb i j ≡ false → i < j
      earlier f = let differ = eqb-false i j f in omega arith

  pub risen_used : (k : ℕ) → rises_at table index k ≡ true → UsedAt table (entry_at index k)
  unfolding rises_at
  risen_used k e = used_told table (entry_at index k) (both (used_at table (entry_at index k)) _ e).0

  pub rises_at_lem : (k : ℕ) → UsedAt table (entry_at index k) → (1 ≤ k → lower table (entry_at index (k - 1)) (entry_at index k) ≡ true)
      → rises_at table index k ≡ true
  unfolding rises_at
  rises_at_lem zero u r = rw (told_used table (entry_at index 0) u)
  rises_at_lem (suc k) u r = rises_later (suc k) (told_used table (entry_at index (suc k)) u) (omega arith) ∙ r (omega arith)

module _ (table : List Record) (index : List ℕ) (small : length table ≤ vacant) (bytes : Bytes index) (long : length index ≡ 2 * length table) where
  abbrev n : ℕ
  n = length table

  abbrev count : ℕ
  count = used_to table n

  -- the entries that name records
  abbrev es : List ℕ
  es = decoded n index

  abbrev ps : List ℕ
  ps = take count es

  length_ps : length ps ≡ count
  length_ps = length-take-le count es (omega (arith, length_decoded n index, used_most table n))

  ps_at : (k : ℕ) → k < count → get_or ps k 0 ≡ entry_at index k
  ps_at k l = get_or-take count es k 0 l ∙ decoded_at n index k (omega (arith, used_most table n))

  module _ (e : every (rises_at table index) count ≡ true) where
    rising : Sorted (Rises table) ps
    rising = at_sorted (Rises table) ps (λ i j l m.
        let short : j < count = omega (arith, length_ps) in
        rw (ps_at i (omega arith), ps_at j short) (climbing table index count e i j l short))

    used : (p : ℕ) → In p ps → UsedAt table p
    used p i =
        let s = in_stands p ps i in
        let short : s.at < count = omega (arith, s.within, length_ps) in
        subst (UsedAt table) (sym (ps_at s.at short) ∙ s.is)
        (risen_used table index s.at (every_at (rises_at table index) count e s.at short))

    -- they are all that there are
    ps_ranked : ps ≡ ranked table
    ps_ranked =
        (only_one table ps (ranked table) rising (ranked_keeps table n) (λ p i. let u = used p i in ranked_in table n p u.0 u.1)).1
        (length_ps ∙ sym (length_ranked table n))

    apart : (i j : ℕ) → i < n → j < n → (get_or table i freed).used ≡ 1 → (get_or table j freed).used ≡ 1
        → (get_or table i freed).iv ≡ (get_or table j freed).iv → i ≡ j
    apart i j l m u v f =
        rising_apart table ps i j rising (subst (In i) (sym ps_ranked) (ranked_in table n i l u)) (subst (In j) (sym ps_ranked) (ranked_in table n j m v)) f

    fitting : every (λ k. vacant_at index (count + k)) (n - count) ≡ true → index ≡ index_of table
    unfolding index_of
    fitting v =
        sym (coded_decoded n index bytes long)
        ∙ ap coded (sym (take-append-drop count es) ∙ ap₂ ◌++◌ ps_ranked rest)
      where
        rest : drop count es ≡ replicate (n - length (ranked table)) vacant
        rest =
            ext_get_or 0 (drop count es) (replicate (n - length (ranked table)) vacant)
            (length-drop count es ∙ omega (arith, length_decoded n index, length_ranked table n) ∙ sym (length-replicate (n - length (ranked table)) vacant))
            (λ k l.
            let short : k < n - count = omega (arith, length-drop count es, length_decoded n index) in
            get_or-drop count es k 0 ∙ decoded_at n index (count + k) (omega arith) ∙ eqb-true _ _ (every_at _ _ v k short)
            ∙ sym (get_or-replicate (n - length (ranked table)) k vacant 0 (omega (arith, length_ranked table n))))

  module _ (sounds : every (sound_at table) n ≡ true) where
    fits_well : (every (rises_at table index) count && every (λ k. vacant_at index (count + k)) (n - count)) ≡ true
        → (well_formed table && same index (index_of table)) ≡ true
    fits_well e =
        let parts = both _ _ e in
        let formed = is_well_formed table (record { each = λ i l. sound_is (get_or table i freed) (every_at (sound_at table) n sounds i l); apart = apart parts.0 }) in
        rw formed (ap (same index) (sym (fitting parts.0 parts.1)) ∙ same_self index)

    well_fits : (well_formed table && same index (index_of table)) ≡ true
        → (every (rises_at table index) count && every (λ k. vacant_at index (count + k)) (n - count)) ≡ true
    well_fits e =
        let parts = both _ _ e in
        let h = formed_holds table (well_formed_is table parts.0) index small (same_equal index (index_of table) parts.1) in
        let m = length_ranked table n in
        rw (at_every (rises_at table index) count (λ k l. rises_at_lem table index k
        (rw (holds_front h k (omega arith)) (holds_used h k (omega arith)))
        (λ o. rw (holds_front h k (omega arith), holds_front h (k - 1) (omega arith)) (h.rising (k - 1) k (omega arith) (omega arith)))))
        (at_every (λ k. vacant_at index (count + k)) (n - count) (λ k l. eq-eqb _ _ (holds_rest h (count + k) (omega arith) (omega arith))))

    pub fits_exactly : (every (rises_at table index) count && every (λ k. vacant_at index (count + k)) (n - count))
        ≡ (well_formed table && same index (index_of table))
    fits_exactly = agree _ _ fits_well well_fits

-- a record that is not sound is in no well-formed table
pub unsound : (table : List Record) (t : Bool) → every (sound_at table) (length table) ≡ false → false ≡ (well_formed table && t)
unsound table t e =
    sym (refuted (well_formed table && t) (λ f.
    let w = well_formed_is table (both (well_formed table) t f).0 in
    true≢false (sym (at_every (sound_at table) (length table) (λ k l. is_sound (get_or table k freed) (w.each k l))) ∙ e)))

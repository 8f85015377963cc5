-- Lists of places by IV: a place put among others or taken out, the places of a table's used records, and that no other list has these by rising IV.
-- Assumes nothing.
use mathlib.Core.Path.{◌≡◌, refl, sym, ap, subst, ◌∙◌}
use mathlib.Core.List.{List, [], ◌∷◌, ◌++◌}
use mathlib.Core.Logic.{◌⊎◌, inl, inr, ⊎_elim}
use mathlib.Core.Bool.{Bool, true, false, true≢false, cond}
use Prim.Native.Nat.{ℕ, zero, suc, ◌≤◌, ◌<◌}
use native.Mathlib.Omega.{arith}
use borrow.Author.Tests.{eqb-true, eqb-false}
use lib.Dec.{eqb}
use lib.ListN.{length, get_or, take, drop}
use Rattle.cells.proofs.Tests.{tested}
use Rattle.table.specs.declared.session.Record.{Record}
use Rattle.table.specs.Record.{freed}
use Rattle.table.specs.Table.{is_used}
use Rattle.table.proofs.Tests.{refuted}
use Rattle.index.specs.Index.{precedes, lower, among, ranked_to}
use Rattle.index.specs.Fits.{Stands}
use Rattle.index.specs.InnerEntries.{used_to}
use Rattle.index.proofs.Precedence.{precedes_self, precedes_trans, follows, follows_trans}

abbrev pub In : ℕ → List ℕ → Type 0
In p [] = ⊥
In p (q ∷ qs) = (p ≡ q) ⊎ In p qs

-- each of some places is related to all behind it
abbrev pub Sorted : (ℕ → ℕ → Type 0) → List ℕ → Type 0
Sorted R [] = Unit
Sorted R (p ∷ ps) = ((q : ℕ) → In q ps → R p q) × Sorted R ps

-- in as many words by index
pub stands_in : (p : ℕ) (ps : List ℕ) → Stands p ps → In p ps
stands_in p ps s = go ps s.at s.within s.is
  where
    go : (qs : List ℕ) (at : ℕ) → at < length qs → get_or qs at 0 ≡ p → In p qs
    go [] at l e = absurd (omega arith)
    go (q ∷ qs) zero l e = inl (sym e)
    go (q ∷ qs) (suc at) l e = inr (go qs at (omega arith) e)

pub in_stands : (p : ℕ) (ps : List ℕ) → In p ps → Stands p ps
in_stands p [] i = elim i [ ]
in_stands p (q ∷ qs) (inl e) = record { at = 0; within = omega arith; is = sym e }
in_stands p (q ∷ qs) (inr i) =
    let s = in_stands p qs i in
    record { at = suc s.at; within = omega (arith, s.within); is = s.is }

at_in : (ps : List ℕ) (at : ℕ) → at < length ps → In (get_or ps at 0) ps
at_in ps at l = stands_in (get_or ps at 0) ps (record { at = at; within = l; is = refl })

module _ (R : ℕ → ℕ → Type 0) where
  pub sorted_at : (ps : List ℕ) → Sorted R ps → (i j : ℕ) → i < j → j < length ps → R (get_or ps i 0) (get_or ps j 0)
  sorted_at [] s i j l m = absurd (omega arith)
  sorted_at (p ∷ ps) s i zero l m = absurd (omega arith)
  sorted_at (p ∷ ps) s zero (suc j) l m = s.0 (get_or ps j 0) (at_in ps j (omega arith))
  sorted_at (p ∷ ps) s (suc i) (suc j) l m = sorted_at ps s.1 i j (omega arith) (omega arith)

  pub at_sorted : (ps : List ℕ) → ((i j : ℕ) → i < j → j < length ps → R (get_or ps i 0) (get_or ps j 0)) → Sorted R ps
  at_sorted [] h = tt
  at_sorted (p ∷ ps) h = (first, at_sorted ps (λ i j l m. h (suc i) (suc j) (omega arith) (omega arith)))
    where
      first : (q : ℕ) → In q ps → R p q
      first q i =
          let s = in_stands q ps i in
          subst (R p) s.is (h 0 (suc s.at) (omega arith) (omega (arith, s.within)))

  pub sorted_map : (S : ℕ → ℕ → Type 0) (ps : List ℕ) → ((p q : ℕ) → In p ps → In q ps → R p q → S p q) → Sorted R ps → Sorted S ps
  sorted_map S [] h s = tt
  sorted_map S (p ∷ ps) h s = ((λ q i. h p q (inl refl) (inr i) (s.0 q i)), sorted_map S ps (λ a b i j. h a b (inr i) (inr j)) s.1)

-- some places without the one at an index
abbrev pub removed : ℕ → List ℕ → List ℕ
removed at ps = take at ps ++ drop (suc at) ps

pub removed_in : (ps : List ℕ) (at q : ℕ) → In q (removed at ps) → In q ps
removed_in [] zero q i = i
removed_in [] (suc at) q i = i
removed_in (p ∷ ps) zero q i = inr i
removed_in (p ∷ ps) (suc at) q (inl e) = inl e
removed_in (p ∷ ps) (suc at) q (inr i) = inr (removed_in ps at q i)

pub removed_rest : (ps : List ℕ) (at q : ℕ) → In q ps → (q ≡ get_or ps at 0 → ⊥) → In q (removed at ps)
removed_rest [] at q i n = elim i [ ]
removed_rest (p ∷ ps) zero q (inl e) n = absurd (n e)
removed_rest (p ∷ ps) zero q (inr i) n = i
removed_rest (p ∷ ps) (suc at) q (inl e) n = inl e
removed_rest (p ∷ ps) (suc at) q (inr i) n = inr (removed_rest ps at q i n)

pub removed_sorted : (R : ℕ → ℕ → Type 0) (ps : List ℕ) (at : ℕ) → Sorted R ps → Sorted R (removed at ps)
removed_sorted R [] zero s = tt
removed_sorted R [] (suc at) s = tt
removed_sorted R (p ∷ ps) zero s = s.1
removed_sorted R (p ∷ ps) (suc at) s = ((λ q i. s.0 q (removed_in ps at q i)), removed_sorted R ps at s.1)

module _ (table : List Record) where
  abbrev pub Rises : ℕ → ℕ → Type 0
  Rises p q = lower table p q ≡ true

  abbrev pub Keeps : ℕ → ℕ → Type 0
  Keeps p q = lower table q p ≡ false

  rises_self : (p q : ℕ) → p ≡ q → Rises p q → ⊥
  rises_self p q e r = true≢false (sym r ∙ ap (lower table p) (sym e) ∙ precedes_self (get_or table p freed).iv)

  rises_keeps : (p q : ℕ) → Rises p q → Keeps p q
  rises_keeps p q r = refuted (lower table q p) (λ t. rises_self p p refl (precedes_trans _ _ _ r t))

  pub removed_other : (ps : List ℕ) (at q : ℕ) → at < length ps → Sorted Rises ps → In q (removed at ps) → q ≡ get_or ps at 0 → ⊥
  removed_other [] at q l s i e = absurd (omega arith)
  removed_other (p ∷ ps) zero q l s i e = rises_self p q (sym e) (s.0 q i)
  removed_other (p ∷ ps) (suc at) q l s (inl f) e =
      rises_self p (get_or ps at 0) (sym f ∙ e) (s.0 (get_or ps at 0) (at_in ps at (omega arith)))
  removed_other (p ∷ ps) (suc at) q l s (inr i) e = removed_other ps at q (omega arith) s.1 i e

  -- a place among others
  module _ (place : ℕ) where
    pub in_among : (ps : List ℕ) (q : ℕ) → In q (among table place ps) → (q ≡ place) ⊎ In q ps
    unfolding among
    in_among [] q i = i
    in_among (p ∷ ps) q i = by (lower table p place) (in_among ps q) i
      where
        by : (t : Bool) → (In q (among table place ps) → (q ≡ place) ⊎ In q ps)
            → In q (cond t (p ∷ among table place ps) (place ∷ p ∷ ps)) → (q ≡ place) ⊎ In q (p ∷ ps)
        by true h (inl e) = inr (inl e)
        by true h (inr j) = ⊎_elim inl (λ k. inr (inr k)) (h j)
        by false h j = j

    pub among_in : (ps : List ℕ) (q : ℕ) → (q ≡ place) ⊎ In q ps → In q (among table place ps)
    unfolding among
    among_in [] q i = i
    among_in (p ∷ ps) q i = by (lower table p place) (among_in ps q) i
      where
        by : (t : Bool) → ((q ≡ place) ⊎ In q ps → In q (among table place ps)) → (q ≡ place) ⊎ In q (p ∷ ps)
            → In q (cond t (p ∷ among table place ps) (place ∷ p ∷ ps))
        by true h (inl e) = inr (h (inl e))
        by true h (inr (inl e)) = inl e
        by true h (inr (inr j)) = inr (h (inr j))
        by false h j = j

    length_among : (ps : List ℕ) → length (among table place ps) ≡ suc (length ps)
    unfolding among
    length_among [] = refl
    length_among (p ∷ ps) = by (lower table p place) (length_among ps)
      where
        by : (t : Bool) → length (among table place ps) ≡ suc (length ps)
            → length (cond t (p ∷ among table place ps) (place ∷ p ∷ ps)) ≡ suc (suc (length ps))
        by true e = ap suc e
        by false e = refl

    pub sorted_among : (R : ℕ → ℕ → Type 0) → ((a b c : ℕ) → R a b → R b c → R a c) → (ps : List ℕ)
        → ((q : ℕ) → In q ps → lower table q place ≡ true → R q place) → ((q : ℕ) → In q ps → lower table q place ≡ false → R place q)
        → Sorted R ps → Sorted R (among table place ps)
    unfolding among
    sorted_among R trans [] low high s = ((λ q i. absurd i), tt)
    sorted_among R trans (p ∷ ps) low high s =
        by (lower table p place) refl (sorted_among R trans ps (λ q i. low q (inr i)) (λ q i. high q (inr i)) s.1)
      where
        by : (t : Bool) → lower table p place ≡ t → Sorted R (among table place ps)
            → Sorted R (cond t (p ∷ among table place ps) (place ∷ p ∷ ps))
        by true e rest = ((λ q i. ⊎_elim (λ f. subst (R p) (sym f) (low p (inl refl) e)) (s.0 q) (in_among ps q i)), rest)
        by false e rest =
            let here = high p (inl refl) e in
            ((λ q i. ⊎_elim (λ f. subst (R place) (sym f) here) (λ j. trans place p q here (s.0 q j)) i), s)

    -- where it stands
    pub among_at : (ps : List ℕ) (at : ℕ) → at ≤ length ps → ((k : ℕ) → k < at → lower table (get_or ps k 0) place ≡ true)
        → (at < length ps → lower table (get_or ps at 0) place ≡ false) → among table place ps ≡ take at ps ++ place ∷ drop at ps
    unfolding among
    among_at [] zero l low high = refl
    among_at [] (suc at) l low high = absurd (omega arith)
    among_at (p ∷ ps) zero l low high = rw (high (omega arith))
    among_at (p ∷ ps) (suc at) l low high =
        rw (low 0 (omega arith)) (ap (λ (l : List ℕ). p ∷ l)
        (among_at ps at (omega arith) (λ k m. low (suc k) (omega arith)) (λ m. high (omega arith))))

  -- the places of used records
  pub in_ranked : (n p : ℕ) → In p (ranked_to table n) → (p < n) × ((get_or table p freed).used ≡ 1)
  unfolding ranked_to
  in_ranked zero p i = absurd i
  in_ranked (suc n) p i =
      by (is_used (get_or table n freed)) refl (λ j. let h = in_ranked n p j in (omega (arith, h.0), h.1)) i
    where
      by : (t : Bool) → is_used (get_or table n freed) ≡ t → (In p (ranked_to table n) → (p < suc n) × ((get_or table p freed).used ≡ 1))
          → In p (cond t (among table n (ranked_to table n)) (ranked_to table n))
          → (p < suc n) × ((get_or table p freed).used ≡ 1)
      by true e later j =
          ⊎_elim (λ f. (omega arith, ap (λ (k : ℕ). (get_or table k freed).used) f ∙ eqb-true _ _ e)) later (in_among n (ranked_to table n) p j)
      by false e later j = later j

  pub ranked_in : (n p : ℕ) → p < n → (get_or table p freed).used ≡ 1 → In p (ranked_to table n)
  unfolding ranked_to
  ranked_in zero p l u = absurd (omega arith)
  ranked_in (suc n) p l u = by (is_used (get_or table n freed)) refl (λ m. ranked_in n p m u)
    where
      before : (p ≡ n → ⊥) → p < n
      before differ = omega arith

      by : (t : Bool) → is_used (get_or table n freed) ≡ t → (p < n → In p (ranked_to table n))
          → In p (cond t (among table n (ranked_to table n)) (ranked_to table n))
      by true e h =
          among_in n (ranked_to table n) p (tested (eqb p n) (λ f. inl (eqb-true p n f)) (λ f. inr (h (before (eqb-false p n f)))))
      by false e h = h (before (λ f. eqb-false _ _ e (ap (λ (k : ℕ). (get_or table k freed).used) (sym f) ∙ u)))

  pub length_ranked : (n : ℕ) → length (ranked_to table n) ≡ used_to table n
  unfolding ranked_to used_to
  length_ranked zero = refl
  length_ranked (suc n) = by (is_used (get_or table n freed)) (length_ranked n)
    where
      by : (t : Bool) → length (ranked_to table n) ≡ used_to table n
          → length (cond t (among table n (ranked_to table n)) (ranked_to table n)) ≡ cond t (suc (used_to table n)) (used_to table n)
      by true e = length_among n (ranked_to table n) ∙ ap suc e
      by false e = e

  pub used_most : (n : ℕ) → used_to table n ≤ n
  unfolding used_to
  used_most zero = omega arith
  used_most (suc n) = by (is_used (get_or table n freed)) (used_most n)
    where
      by : (t : Bool) → used_to table n ≤ n → cond t (suc (used_to table n)) (used_to table n) ≤ suc n
      by true l = omega arith
      by false l = omega arith

  pub used_fewer : (n p : ℕ) → p < n → is_used (get_or table p freed) ≡ false → used_to table n < n
  unfolding used_to
  used_fewer zero p l e = absurd (omega arith)
  used_fewer (suc n) p l e = by (is_used (get_or table n freed)) refl (used_most n) (λ m. used_fewer n p m e)
    where
      by : (t : Bool) → is_used (get_or table n freed) ≡ t → used_to table n ≤ n → (p < n → used_to table n < n)
          → cond t (suc (used_to table n)) (used_to table n) < suc n
      by true f most h =
          let other : p ≡ n → ⊥ = λ g. true≢false (sym f ∙ ap (λ (k : ℕ). is_used (get_or table k freed)) (sym g) ∙ e) in
          let fewer = h (omega arith) in
          omega arith
      by false f most h = omega arith

  -- no IV falls along them
  pub ranked_keeps : (n : ℕ) → Sorted Keeps (ranked_to table n)
  unfolding ranked_to
  ranked_keeps zero = tt
  ranked_keeps (suc n) = by (is_used (get_or table n freed)) (ranked_keeps n)
    where
      by : (t : Bool) → Sorted Keeps (ranked_to table n) → Sorted Keeps (cond t (among table n (ranked_to table n)) (ranked_to table n))
      by true s = sorted_among n Keeps (λ a b c. follows_trans _ _ _) (ranked_to table n) (λ q i. rises_keeps q n) (λ q i e. e) s
      by false s = s

  -- where no two used records have one IV each is above the one before
  module _ (apart : (i j : ℕ) → i < length table → j < length table → (get_or table i freed).used ≡ 1 → (get_or table j freed).used ≡ 1
      → (get_or table i freed).iv ≡ (get_or table j freed).iv → i ≡ j) where
    pub ranked_rises : (n : ℕ) → n ≤ length table → Sorted Rises (ranked_to table n)
    unfolding ranked_to
    ranked_rises zero h = tt
    ranked_rises (suc n) h = by (is_used (get_or table n freed)) refl (ranked_rises n (omega arith))
      where
        by : (t : Bool) → is_used (get_or table n freed) ≡ t → Sorted Rises (ranked_to table n)
            → Sorted Rises (cond t (among table n (ranked_to table n)) (ranked_to table n))
        by true e s =
            sorted_among n Rises (λ a b c. precedes_trans _ _ _) (ranked_to table n) (λ q i f. f)
            (λ q i f. follows _ _ f (λ g.
            let there = in_ranked n q i in
            let one = apart q n (omega (arith, there.0)) (omega arith) there.1 (eqb-true _ _ e) g in
            absurd (omega (arith, there.0))))
            s
        by false e s = s

  -- places that rise stand among places that do not fall: they are no more, and as many only if they are these
  pub only_one : (ps qs : List ℕ) → Sorted Rises ps → Sorted Keeps qs → ((p : ℕ) → In p ps → In p qs)
      → (length ps ≤ length qs) × (length ps ≡ length qs → ps ≡ qs)
  only_one [] [] r k h = (omega arith, λ e. refl)
  only_one [] (q ∷ qs) r k h = (omega arith, λ e. absurd (omega arith))
  only_one (p ∷ ps) [] r k h = absurd (h p (inl refl))
  only_one (p ∷ ps) (q ∷ qs) r k h =
      ⊎_elim
      (λ e.
      let rest = only_one ps qs r.1 k.1 (λ x i. ⊎_elim (λ f. absurd (rises_self p x (e ∙ sym f) (r.0 x i))) (λ j. j) (h x (inr i))) in
      (omega (arith, rest.0), λ l. let f = rest.1 (omega arith) in cc))
      (λ j.
      let rest = only_one (p ∷ ps) qs r k.1 (behind j) in
      (omega (arith, rest.0), λ l. absurd (omega (arith, rest.0))))
      (h p (inl refl))
    where
      behind : In p qs → (x : ℕ) → In x (p ∷ ps) → In x qs
      behind j x (inl e) = subst (λ (y : ℕ). In y qs) (sym e) j
      behind j x (inr i) = ⊎_elim (λ f. absurd (true≢false (sym (r.0 x i) ∙ ap (lower table p) f ∙ k.0 p j))) (λ m. m) (h x (inr i))

  pub rising_one : (ps qs : List ℕ) → Sorted Rises ps → Sorted Rises qs → ((p : ℕ) → In p ps → In p qs) → ((p : ℕ) → In p qs → In p ps) → ps ≡ qs
  rising_one ps qs r s h g =
      let there = only_one ps qs r (sorted_map Rises Keeps qs (λ a b i j. rises_keeps a b) s) h in
      let back = only_one qs ps s (sorted_map Rises Keeps ps (λ a b i j. rises_keeps a b) r) g in
      there.1 (omega (arith, there.0, back.0))

  -- places that rise have each their own IV
  pub rising_apart : (ps : List ℕ) (i j : ℕ) → Sorted Rises ps → In i ps → In j ps → (get_or table i freed).iv ≡ (get_or table j freed).iv → i ≡ j
  rising_apart [] i j s a b e = elim a [ ]
  rising_apart (p ∷ ps) i j s (inl a) (inl b) e = a ∙ sym b
  rising_apart (p ∷ ps) i j s (inl a) (inr b) e = absurd (true≢false (sym (s.0 j b) ∙ equal))
    where
      equal : lower table p j ≡ false
      equal = ap (λ (k : ℕ). lower table k j) (sym a) ∙ ap (precedes (get_or table i freed).iv) (sym e) ∙ precedes_self (get_or table i freed).iv
  rising_apart (p ∷ ps) i j s (inr a) (inl b) e = absurd (true≢false (sym (s.0 i a) ∙ equal))
    where
      equal : lower table p i ≡ false
      equal = ap (λ (k : ℕ). lower table k i) (sym b) ∙ ap (precedes (get_or table j freed).iv) e ∙ precedes_self (get_or table j freed).iv
  rising_apart (p ∷ ps) i j s (inr a) (inr b) e = rising_apart ps i j s.1 a b e

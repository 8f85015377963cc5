-- What a window knows of the nonces accepted so far, and that a step keeps it: the step form of the window's theorem.
-- Assumes nothing.
use mathlib.Core.Path.{◌≡◌, refl, sym, ap, subst, ◌∙◌}
use mathlib.Core.List.{List, [], ◌∷◌}
use mathlib.Core.Logic.{⊎_elim}
use mathlib.Core.Bool.{Bool, true, false, not, cond, ◌&&◌, ◌||◌, and-false, or_comm}
use Prim.Native.Nat.{ℕ, ◌+◌, ◌-◌, ◌<◌, ◌≤◌, max}
use native.Mathlib.Omega.{arith}
use borrow.Author.Tests.{lt-ltb, le-ltb, le-leb, lt-leb, ne_eqb}
use lib.Dec.{ltb, leb, eqb}
use Rattle.window.specs.declared.Window.{Window}
use Rattle.window.specs.declared.Verdict.TheVariants.{Accepted, Seen}
use Rattle.window.specs.declared.Stepped.{Stepped}
use Rattle.window.specs.Window.{fresh, bit, moved, marked, accepted, refused, above, below, step_of}
use Rattle.window.specs.History.{is_accepted, keep, among, highest_of, admits, verdict_after}
use Rattle.window.proofs.Bits.{order, alike, no_bit}
use Rattle.window.proofs.Next.{has, Next, later_from, first}
use Rattle.window.proofs.Steps.{unmoved}

abbrev pub some : List ℕ → Bool
some [] = false
some (a ∷ before) = true

-- the window stands for the nonces accepted so far, which are counted as in Next
pub record Tracks (window : Window) (before : List ℕ) : Type 0 where
  pub any : window.any ≡ some before
  pub highest : window.highest.0 ≡ highest_of before
  pub set : (e : ℕ) → highest_of before < e → has (highest_of before) window.bits e ≡ (leb 64 e && among before (e - 64))

-- a fresh window stands for none
pub tracks_fresh : Tracks fresh []
tracks_fresh = record { any = refl; highest = refl; set = λ e l. rw (no_bit (0 + 64 - e)) (and-false (leb e (0 + 64)) ∙ sym (and-false (leb 64 e))) }

-- none above the highest was accepted
none_above : (before : List ℕ) (n : ℕ) → highest_of before < n → among before n ≡ false
none_above [] n h = refl
none_above (a ∷ before) n h = rw (ne_eqb a n (λ e. omega arith), none_above before n (omega arith))

-- the window after a nonce stands for that one, too
tracks_more : (window : Window) (before : List ℕ) → Tracks window before → (n : ℕ) (next : Window) → Next (highest_of before) window.bits n next → Tracks next (n ∷ before)
tracks_more window before t n next x = record {
  any = x.any;
  highest = top;
  set = λ e l. ap (λ (h : ℕ). has h next.bits e) (sym top) ∙ x.set e (omega arith) ∙ ap (λ (u : Bool). u || eqb (n + 64) e) (t.set e (omega arith)) ∙ more e;
}
  where
    top : next.highest.0 ≡ max n (highest_of before)
    top = x.highest ∙ omega arith

    more : (e : ℕ) → ((leb 64 e && among before (e - 64)) || eqb (n + 64) e) ≡ (leb 64 e && among (n ∷ before) (e - 64))
    more e =
        ⊎_elim (λ l. rw (lt-leb 64 e l) (ne_eqb (n + 64) e (λ z. omega arith)))
        (λ l. rw (le-leb 64 e l, alike (n + 64) e n (e - 64) (λ z. omega arith) (λ z. omega arith)) (or_comm (among before (e - 64)) (eqb n (e - 64))))
        (order e 64)

-- a step's verdict and window are right for the nonces accepted before
pub record Right (before : List ℕ) (n : ℕ) (s : Stepped) : Type 0 where
  pub verdict : s.verdict ≡ verdict_after before n
  pub next : Tracks s.window (keep (is_accepted s.verdict) n before)

module _ (window : Window) (a : ℕ) (rest : List ℕ) (t : Tracks window (a ∷ rest)) (n : ℕ) where
  abbrev top : ℕ
  top = highest_of (a ∷ rest)

  above_verdict : top < n → (above window n (n - top)).verdict ≡ verdict_after (a ∷ rest) n
  above_verdict h =
      rw (lt-leb (n + 64) top (omega arith), none_above (a ∷ rest) n h) (by (leb 64 (n - top)))
    where
      by : (u : Bool) → (cond u (accepted n 1) (accepted n (moved window.bits (n - top)))).verdict ≡ Accepted
      by true = refl
      by false = refl

  below_verdict : n ≤ top → (below window (top - n)).verdict ≡ verdict_after (a ∷ rest) n
  below_verdict h =
      ⊎_elim (λ l. rw (lt-leb 64 (top - n) l, lt-leb (n + 64) top (omega arith), known l) (by (among (a ∷ rest) n)))
      (λ l. rw (le-leb 64 (top - n) l, le-leb (n + 64) top (omega arith)))
      (order (top - n) 64)
    where
      known : top - n < 64 → bit window.bits (top - n) ≡ among (a ∷ rest) n
      known l =
          let down : top + 64 - (n + 64) ≡ top - n = omega arith in
          let back : n + 64 - 64 ≡ n = omega arith in
          let set : has top window.bits (n + 64) ≡ bit window.bits (top - n) = rw (le-leb (n + 64) (top + 64) (omega arith), down) in
          sym set ∙ t.set (n + 64) (omega arith) ∙ rw (le-leb 64 (n + 64) (omega arith), back)

      by : (u : Bool) → (cond u (refused window Seen) (accepted window.highest.0 (marked window.bits (top - n)))).verdict ≡ cond u Seen Accepted
      by true = refl
      by false = refl

  -- over any test and number, since neither can be rewritten as a field of the window
  verdict_right : (u : Bool) (k : ℕ) → u ≡ true → k ≡ top
      → (cond u (cond (ltb k n) (above window n (n - k)) (below window (k - n))) (accepted n 1)).verdict ≡ verdict_after (a ∷ rest) n
  verdict_right u k eu ek =
      rw (eu, ek) (⊎_elim (λ l. rw (lt-ltb top n l) (above_verdict l)) (λ l. rw (le-ltb top n l) (below_verdict l)) (order top n))

-- a step from a window that stands for the nonces accepted so far
pub right : (window : Window) (before : List ℕ) → Tracks window before → (n : ℕ) → Right before n (step_of window n)
unfolding step_of
right window [] t n = rw t.any (record { verdict = refl; next = tracks_more fresh [] tracks_fresh n _ (first n) })
right window (a ∷ rest) t n = record {
  verdict = verdict_right window a rest t n window.any window.highest.0 t.any t.highest;
  next = by (is_accepted (step_of window n).verdict) refl;
}
  where
    by : (u : Bool) → is_accepted (step_of window n).verdict ≡ u → Tracks (step_of window n).window (keep u n (a ∷ rest))
    by true e =
        tracks_more window (a ∷ rest) t n _ (subst (λ (h : ℕ). Next h window.bits n (step_of window n).window) t.highest (later_from window t.any n))
    by false e = subst (λ (w : Window). Tracks w (a ∷ rest)) (sym (unmoved window n e)) t

-- the verdict accepts exactly what the rule admits
pub admitted : (before : List ℕ) (n : ℕ) → is_accepted (verdict_after before n) ≡ admits before n
admitted [] n = refl
admitted (a ∷ rest) n =
    let top = highest_of (a ∷ rest) in
    ⊎_elim (λ l. rw (lt-leb (n + 64) top l, lt-ltb top (n + 64) l) (seen (among (a ∷ rest) n)))
    (λ l. rw (le-leb (n + 64) top l, le-ltb top (n + 64) l) (sym (and-false (not (among (a ∷ rest) n)))))
    (order top (n + 64))
  where
    seen : (u : Bool) → is_accepted (cond u Seen Accepted) ≡ (not u && true)
    seen true = refl
    seen false = refl

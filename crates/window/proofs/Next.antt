-- What the window after a nonce is, whatever the verdict: it reaches as high as the higher of the two, and has the bits of the window before it and the
-- nonce's own, as far down as it reaches. A nonce that is refused is out of reach, or its bit is set already.
-- Assumes nothing.
use mathlib.Core.Path.{◌≡◌, refl, sym, subst, ◌∙◌}
use mathlib.Core.Logic.{⊎_elim}
use mathlib.Core.Bool.{Bool, true, false, cond, ◌&&◌, ◌||◌, and-false, or-false}
use Prim.Native.Nat.{ℕ, ◌+◌, ◌-◌, ◌<◌, ◌≤◌, max}
use native.Mathlib.Omega.{arith}
use borrow.Author.Tests.{lt-ltb, le-ltb, le-leb, lt-leb, ne_eqb, eqb-true}
use lib.Dec.{leb, eqb}
use Rattle.window.specs.declared.Window.{Window}
use Rattle.window.specs.declared.Verdict.TheVariants.{Seen}
use Rattle.window.specs.Window.{fresh, bit, moved, marked, accepted, refused, above, below, step_of}
use Rattle.window.proofs.Bits.{order, alike, no_bit, bit_power, bit_moved, bit_marked}

-- whether a window with highest nonce h has a bit set for e, where nonces are counted from 64 below zero: so each of its bits stands for one
abbrev pub has : ℕ → ℕ → ℕ → Bool
has h bits e = leb e (h + 64) && bit bits (h + 64 - e)

pub has_bit : (h bits d : ℕ) → d < 64 → has h bits (h + 64 - d) ≡ bit bits d
has_bit h bits d l =
    let back : h + 64 - (h + 64 - d) ≡ d = omega arith in
    rw (le-leb (h + 64 - d) (h + 64) (omega arith), back)

-- a window with a highest nonce
abbrev pub window : ℕ → ℕ → Window
window h bits = record { any = true; highest = record { 0 = h }; bits = bits }

-- a window is the one after the nonce n, where the one before it had the highest nonce h and these bits
pub record Next (h bits n : ℕ) (next : Window) : Type 0 where
  pub any : next.any ≡ true
  pub highest : next.highest.0 ≡ max h n
  pub set : (e : ℕ) → max h n < e → has next.highest.0 next.bits e ≡ (has h bits e || eqb (n + 64) e)

module _ (h bits n : ℕ) where
  -- a nonce above the highest, with any word that holds each old bit where it moved to, and the lowest
  rises : h < n → (word : ℕ) → ((d : ℕ) → d < 64 → bit word d ≡ ((leb (n - h) d && bit bits (d - (n - h))) || eqb 0 d))
      → Next h bits n (accepted n word).window
  rises up word is = record { any = refl; highest = omega arith; set = λ e l. reach e (omega arith) }
    where
      reach : (e : ℕ) → n < e → has n word e ≡ (has h bits e || eqb (n + 64) e)
      reach e l =
          let d = n + 64 - e in
          ⊎_elim (λ g. rw (lt-leb e (n + 64) g, lt-leb e (h + 64) (omega arith)) (sym (ne_eqb (n + 64) e (λ z. omega arith))))
          (λ g. rw (le-leb e (n + 64) g) (is d (omega arith) ∙ rw (alike 0 d (n + 64) e (λ z. omega arith) (λ z. omega arith))
          (⊎_elim (λ f. rw (lt-leb (n - h) d (omega arith), lt-leb e (h + 64) f))
          (λ f. let same : d - (n - h) ≡ h + 64 - e = omega arith in rw (le-leb (n - h) d (omega arith), le-leb e (h + 64) f, same))
          (order (h + 64) e))))
          (order (n + 64) e)

  marks : n ≤ h → Next h bits n (accepted h (marked bits (h - n))).window
  marks down = record { any = refl; highest = omega arith; set = λ e l. reach e (omega arith) }
    where
      reach : (e : ℕ) → h < e → has h (marked bits (h - n)) e ≡ (has h bits e || eqb (n + 64) e)
      reach e l =
          ⊎_elim (λ g. rw (lt-leb e (h + 64) g) (sym (ne_eqb (n + 64) e (λ z. omega arith))))
          (λ g. rw (le-leb e (h + 64) g) (bit_marked bits (h - n) (h + 64 - e) ∙ rw (alike (h - n) (h + 64 - e) (n + 64) e (λ z. omega arith) (λ z. omega arith))))
          (order (h + 64) e)

  -- a nonce that is refused is out of reach, or its bit is set
  out_of_reach : n + 64 ≤ h → (e : ℕ) → h < e → has h bits e ≡ (has h bits e || eqb (n + 64) e)
  out_of_reach old e l = rw (ne_eqb (n + 64) e (λ z. omega arith)) (sym (or-false (has h bits e)))

  set_already : n ≤ h → bit bits (h - n) ≡ true → (e : ℕ) → h < e → has h bits e ≡ (has h bits e || eqb (n + 64) e)
  set_already down seen e l = by (eqb (n + 64) e) refl
    where
      by : (t : Bool) → eqb (n + 64) e ≡ t → has h bits e ≡ (has h bits e || t)
      by true z =
          let at = eqb-true (n + 64) e z in
          let same : h + 64 - e ≡ h - n = omega arith in
          rw (le-leb e (h + 64) (omega arith), same, seen)
      by false z = sym (or-false (has h bits e))

  keeps : n ≤ h → ((e : ℕ) → h < e → has h bits e ≡ (has h bits e || eqb (n + 64) e)) → Next h bits n (window h bits)
  keeps down same = record { any = refl; highest = omega arith; set = λ e l. same e (omega arith) }

  up : h < n → Next h bits n (above (window h bits) n (n - h)).window
  up l =
      let k = n - h in
      ⊎_elim (λ near. rw (lt-leb 64 k near) (rises l (moved bits k) (bit_moved bits k)))
      (λ far. rw (le-leb 64 k far) (rises l 1 (λ d m. rw (lt-leb k d (omega arith)) (bit_power 0 d))))
      (order k 64)

  down : n ≤ h → Next h bits n (below (window h bits) (h - n)).window
  down l =
      ⊎_elim (λ near. rw (lt-leb 64 (h - n) near) (by (bit bits (h - n)) refl))
      (λ far. rw (le-leb 64 (h - n) far) (keeps l (out_of_reach (omega arith))))
      (order (h - n) 64)
    where
      by : (t : Bool) → bit bits (h - n) ≡ t → Next h bits n (cond t (refused (window h bits) Seen) (accepted h (marked bits (h - n)))).window
      by true e = keeps l (set_already l e)
      by false e = marks l

  later : Next h bits n (step_of (window h bits) n).window
  unfolding step_of
  later = ⊎_elim (λ l. rw (lt-ltb h n l) (up l)) (λ l. rw (le-ltb h n l) (down l)) (order h n)

-- one step from a window with a highest nonce, and from a fresh one
pub later_from : (w : Window) → w.any ≡ true → (n : ℕ) → Next w.highest.0 w.bits n (step_of w n).window
later_from w e n =
    subst (λ (t : Bool). Next w.highest.0 w.bits n (step_of (record { any = t; highest = w.highest; bits = w.bits }) n).window) (sym e)
    (later w.highest.0 w.bits n)

pub first : (n : ℕ) → Next 0 0 n (step_of fresh n).window
unfolding step_of
first n = record { any = refl; highest = omega arith; set = λ e l. reach e }
  where
    reach : (e : ℕ) → has n 1 e ≡ (has 0 0 e || eqb (n + 64) e)
    reach e =
        rw (no_bit (0 + 64 - e), and-false (leb e (0 + 64)), bit_power 0 (n + 64 - e))
        (⊎_elim (λ g. rw (lt-leb e (n + 64) g) (sym (ne_eqb (n + 64) e (λ z. omega arith))))
        (λ g. rw (le-leb e (n + 64) g) (alike 0 (n + 64 - e) (n + 64) e (λ z. omega arith) (λ z. omega arith)))
        (order (n + 64) e))

-- Laws of one step from any window: what a refusal keeps, and what an acceptance leaves.
-- Assumes nothing.
use mathlib.Core.Path.{◌≡◌, refl, sym, ap, ◌∙◌}
use mathlib.Core.Bool.{Bool, true, false, true≢false, cond, ◌&&◌, ◌||◌, or-true}
use Prim.Native.Nat.{ℕ, ◌-◌, ◌*◌, ◌<◌, ◌^◌, ◌%◌}
use native.Mathlib.Nat.{mod-lt}
use borrow.Author.Tests.{leb-false, lt-ltb}
use lib.Bits.{or_lt}
use lib.Dec.{lit<, ltb, leb, eqb}
use lib.Pow.{pow_pos, pow-lt}
use Rattle.window.specs.declared.Window.{Window}
use Rattle.window.specs.declared.Stepped.{Stepped}
use Rattle.window.specs.Window.{number_of, bit, moved, marked, accepted, refused, step_of}
use Rattle.window.specs.History.{is_accepted}
use Rattle.window.proofs.Bits.{bit_moved, bit_marked}

-- what holds of each outcome holds of the one that a test picks
by_test : (P : Stepped → Type 0) {a b : Stepped} (t : Bool) → (t ≡ true → P a) → (t ≡ false → P b) → P (cond t a b)
by_test P true p q = p refl
by_test P false p q = q refl

-- a step ends in a refusal, which keeps the window, or in an acceptance with one of four words
by_outcome : (P : Stepped → Type 0) (window : Window) (n : ℕ)
    → ((verdict : _) → is_accepted verdict ≡ false → P (refused window verdict))
    → P (accepted n 1)
    → ((d : ℕ) → d < 64 → P (accepted n (moved window.bits d)))
    → ((d : ℕ) → d < 64 → window.any ≡ true → P (accepted window.highest.0 (marked window.bits d)))
    → P (step_of window n)
unfolding step_of
by_outcome P window n r one m k =
    by_test P window.any
    (λ e. by_test P (ltb window.highest.0 n)
    (λ _. by_test P (leb 64 (n - window.highest.0)) (λ _. one) (λ f. m _ (leb-false 64 _ f)))
    (λ _. by_test P (leb 64 (window.highest.0 - n)) (λ _. r _ refl)
    (λ f. by_test P (bit window.bits (window.highest.0 - n)) (λ _. r _ refl) (λ _. k _ (leb-false 64 _ f) e))))
    (λ _. one)

-- a refused nonce leaves the window as it was
pub unmoved : (window : Window) (n : ℕ) → is_accepted (step_of window n).verdict ≡ false → (step_of window n).window ≡ window
unmoved window n =
    by_outcome (λ s. is_accepted s.verdict ≡ false → s.window ≡ window) window n
    (λ v f e. refl) (λ e. absurd (true≢false e)) (λ d l e. absurd (true≢false e)) (λ d l h e. absurd (true≢false e))

-- after an accepted nonce there is a highest one, and its bit is set
pub accepted_any : (window : Window) (n : ℕ) → is_accepted (step_of window n).verdict ≡ true → (step_of window n).window.any ≡ true
accepted_any window n =
    by_outcome (λ s. is_accepted s.verdict ≡ true → s.window.any ≡ true) window n
    (λ v f e. absurd (true≢false (sym e ∙ f))) (λ e. refl) (λ d l e. refl) (λ d l h e. refl)

pub accepted_lowest : (window : Window) (n : ℕ) → (window.any ≡ true → bit window.bits 0 ≡ true)
    → is_accepted (step_of window n).verdict ≡ true → bit (step_of window n).window.bits 0 ≡ true
unfolding bit
accepted_lowest window n low =
    by_outcome (λ s. is_accepted s.verdict ≡ true → bit s.window.bits 0 ≡ true) window n
    (λ v f e. absurd (true≢false (sym e ∙ f))) (λ e. refl)
    (λ d l e. bit_moved window.bits d 0 (lit< tt) ∙ or-true (leb d 0 && bit window.bits (0 - d)))
    (λ d l h e. bit_marked window.bits d 0 ∙ ap (λ (u : Bool). u || eqb d 0) (low h))

-- a window that its words hold steps to one that they hold
pub bits_fit : (window : Window) (n : ℕ) → window.bits < 2 ^ 64 → (step_of window n).window.bits < 2 ^ 64
unfolding moved marked
bits_fit window n fits =
    by_outcome (λ s. s.window.bits < 2 ^ 64) window n
    (λ v f. fits) (lit< tt)
    (λ d l. or_lt 64 (window.bits * 2 ^ d % 2 ^ 64) 1 (mod-lt (window.bits * 2 ^ d) (pow_pos 64)) (lit< tt))
    (λ d l h. or_lt 64 window.bits (2 ^ d) fits (pow-lt l))

pub highest_fits : (window : Window) (n : ℕ) → window.highest.0 < 2 ^ 32 → n < 2 ^ 32 → (step_of window n).window.highest.0 < 2 ^ 32
highest_fits window n fits small =
    by_outcome (λ s. s.window.highest.0 < 2 ^ 32) window n (λ v f. fits) small (λ d l. small) (λ d l h. fits)

-- a nonce above all before it is accepted, and is the highest then
pub newest : (window : Window) (n : ℕ) → (window.any ≡ true → window.highest.0 < n)
    → (number_of (step_of window n).verdict ≡ 0) × ((step_of window n).window.highest.0 ≡ n)
unfolding step_of
newest window n h =
    let P : Stepped → Type 0 = λ s. (number_of s.verdict ≡ 0) × (s.window.highest.0 ≡ n) in
    by_test P window.any
    (λ any. rw (lt-ltb window.highest.0 n (h any)) (by_test P (leb 64 (n - window.highest.0)) (λ _. (refl, refl)) (λ _. (refl, refl)))) (λ _. (refl, refl))

-- Document 02, K12: "if two nonces are both accepted in one order from a window, and both in the other, the two windows at the end are equal",
-- and so for any two orders of one list. From a window that a record may hold it is so whatever the verdicts are, since a nonce that is refused
-- has its bit set already, or is one that a window with that highest nonce has no bit for. The order decides only who is refused.
-- Assumes nothing.
use mathlib.Core.Path.{◌≡◌, refl, sym, ap, ap₂, subst, ◌∙◌}
use mathlib.Core.List.{List, [], ◌∷◌, Permᴰ}
use mathlib.Core.Bool.{Bool, true, false, true≢false, cond, ◌||◌, or_comm, or_assoc}
use Prim.Native.Nat.{ℕ, ◌+◌, ◌-◌, ◌<◌, max}
use native.Mathlib.Omega.{arith}
use lib.Dec.{lit<, eqb}
use Rattle.window.specs.declared.Window.{Window}
use Rattle.window.specs.declared.Verdict.TheVariants.{TooOld}
use Rattle.window.specs.Window.{fresh, bit, moved, marked, step_of}
use Rattle.window.specs.History.{Holdable, run, all_accepted}
use Rattle.window.proofs.Bits.{same_bits}
use Rattle.window.proofs.Next.{has, has_bit, window, Next, later_from, first}
use Rattle.window.proofs.Steps.{bits_fit}

module _ (w : Window) (holds : Holdable w) (n : ℕ) where
  next : Next w.highest.0 w.bits n (step_of w n).window
  next = by w.any refl
    where
      by : (t : Bool) → w.any ≡ t → Next w.highest.0 w.bits n (step_of w n).window
      by true e = later_from w e n
      by false e = subst (λ (v : Window). Next v.highest.0 v.bits n (step_of v n).window) (sym (holds.new e)) (first n)

  step_holds : Holdable (step_of w n).window
  step_holds = record { new = λ e. absurd (true≢false (sym next.any ∙ e)); bits = bits_fit w n holds.bits }

-- two windows that reach as high and have the same bits set
same_window : (a b : Window) → Holdable a → Holdable b → a.any ≡ b.any → a.highest.0 ≡ b.highest.0
    → ((e : ℕ) → b.highest.0 < e → has a.highest.0 a.bits e ≡ has b.highest.0 b.bits e) → a ≡ b
same_window a b f g any highest same =
    ap (λ (t : Bool). record { any = t; highest = a.highest; bits = a.bits }) any
    ∙ ap₂ (λ (h bits : ℕ). record { any = b.any; highest = record { 0 = h }; bits = bits }) highest
    (same_bits 64 a.bits b.bits f.bits g.bits
    (λ d l.
    let e = b.highest.0 + 64 - d in
    sym (has_bit b.highest.0 a.bits d l) ∙ ap (λ (h : ℕ). has h a.bits e) (sym highest) ∙ same e (omega arith) ∙ has_bit b.highest.0 b.bits d l))

-- two nonces
module _ (w : Window) (holds : Holdable w) where
  module _ (m n : ℕ) where
    abbrev both : Window
    both = (step_of (step_of w m).window n).window

    one : Next w.highest.0 w.bits m (step_of w m).window
    one = next w holds m

    two : Next (step_of w m).window.highest.0 (step_of w m).window.bits n both
    two = next (step_of w m).window (step_holds w holds m) n

    both_highest : both.highest.0 ≡ max (max w.highest.0 m) n
    both_highest = two.highest ∙ ap (λ (h : ℕ). max h n) one.highest

    both_set : (e : ℕ) → both.highest.0 < e → has both.highest.0 both.bits e ≡ (has w.highest.0 w.bits e || (eqb (m + 64) e || eqb (n + 64) e))
    both_set e l =
        two.set e (omega (arith, two.highest))
        ∙ ap (λ (t : Bool). t || eqb (n + 64) e) (one.set e (omega (arith, both_highest)))
        ∙ or_assoc (has w.highest.0 w.bits e) (eqb (m + 64) e) (eqb (n + 64) e)

    both_holds : Holdable both
    both_holds = step_holds (step_of w m).window (step_holds w holds m) n

  pub either_order : (m n : ℕ) → (step_of (step_of w m).window n).window ≡ (step_of (step_of w n).window m).window
  either_order m n =
      let top : (both m n).highest.0 ≡ (both n m).highest.0 = omega (arith, both_highest m n, both_highest n m) in
      same_window (both m n) (both n m) (both_holds m n) (both_holds n m) ((two m n).any ∙ sym (two n m).any) top
      (λ e l.
      both_set m n e (omega arith)
      ∙ ap (λ (t : Bool). has w.highest.0 w.bits e || t) (or_comm (eqb (m + 64) e) (eqb (n + 64) e))
      ∙ sym (both_set n m e l))

-- any two orders of one list
pub any_order : (w : Window) → Holdable w → {ns ms : List ℕ} → Permᴰ ns ms → run w ns ≡ run w ms
unfolding run
any_order w holds Permᴰ.nil = refl
any_order w holds (Permᴰ.cons {a = a} {l₂ = l} e p) = any_order (step_of w a).window (step_holds w holds a) p ∙ ap (λ (n : ℕ). run (step_of w n).window l) e
any_order w holds (Permᴰ.swap {a = a} {b = b} {l = l} e f) =
    ap (λ (v : Window). run v l) (either_order w holds a b ∙ ap₂ (λ (m n : ℕ). (step_of (step_of w m).window n).window) f e)
any_order w holds (Permᴰ.trans p q) = any_order w holds p ∙ any_order w holds q

-- an order of a list has each nonce as often as the list: what is no order of it is not taken for one
abbrev times : ℕ → List ℕ → ℕ
times n [] = 0
times n (a ∷ ns) = cond (eqb a n) 1 0 + times n ns

pub as_often : (n : ℕ) {ns ms : List ℕ} → Permᴰ ns ms → times n ns ≡ times n ms
as_often n Permᴰ.nil = refl
as_often n (Permᴰ.cons e p) = ap₂ (λ (a k : ℕ). cond (eqb a n) 1 0 + k) e (as_often n p)
as_often n (Permᴰ.swap {a = a} {b = b} {l = l} e f) =
    let swapped : cond (eqb a n) 1 0 + (cond (eqb b n) 1 0 + times n l) ≡ cond (eqb b n) 1 0 + (cond (eqb a n) 1 0 + times n l) = omega arith in
    swapped ∙ ap₂ (λ (x y : ℕ). cond (eqb x n) 1 0 + (cond (eqb y n) 1 0 + times n l)) f e
as_often n (Permᴰ.trans p q) = as_often n p ∙ as_often n q

no_order : Permᴰ {A = ℕ} (5 ∷ 5 ∷ 6 ∷ []) (5 ∷ 6 ∷ 6 ∷ []) → ⊥
no_order p = absurd (omega (arith, as_often 5 p))

-- witnesses: two orders of one list, each accepted throughout, that leave one window; and docs/RULES.md's example of an order that refuses one
pub record Witnesses : Type 0 where
  pub holds : Holdable (window 100 1)
  pub one_order : all_accepted (window 100 1) (102 ∷ 105 ∷ 90 ∷ []) ≡ true
  pub another : all_accepted (window 100 1) (105 ∷ 90 ∷ 102 ∷ []) ≡ true
  pub orders : Permᴰ {A = ℕ} (102 ∷ 105 ∷ 90 ∷ []) (105 ∷ 90 ∷ 102 ∷ [])
  pub same : run (window 100 1) (102 ∷ 105 ∷ 90 ∷ []) ≡ run (window 100 1) (105 ∷ 90 ∷ 102 ∷ [])
  pub in_time : all_accepted fresh (1 ∷ 65 ∷ []) ≡ true
  pub too_late : (step_of (step_of fresh 65).window 1).verdict ≡ TooOld

pub witnesses : Witnesses
unfolding run all_accepted step_of bit moved marked
witnesses = record {
  holds = record { new = λ e. absurd (true≢false e); bits = lit< tt };
  one_order = refl;
  another = refl;
  orders = Permᴰ.trans (Permᴰ.swap refl refl) (Permᴰ.cons refl (Permᴰ.swap refl refl));
  same = refl;
  in_time = refl;
  too_late = refl;
}

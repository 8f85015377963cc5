-- Arrays that a closure makes element by element, or of the elements of another, where a call leaves the closure as it was.
-- Assumes nothing.
use Rattle.std.proofs.Common.{◌≡◌, ℕ, zero, suc, ◌+◌, ◌≤◌, ◌<◌, ◌%◌, ◌/◌, inl, inr, List, length, get_or, refl, sym, ◌∙◌, ap, subst, arith}
use Rattle.std.specs.Array.{IsFromFnResult, IsFromFnResultFrom, IsMapOf, MapsFrom}
use Rattle.std.proofs.lemmas.List.FromFn.{fill_by_all}
use Rattle.std.proofs.lemmas.Bool.{cases_eq}
use denote.Param.Members.{Mut, Called}
use Rattle.aes.specs.Cipher.{state, word_of}

module _ {F : Type 0} (g : Mut F (ℕ × Unit {0}) ℕ) (h : ℕ → ℕ) (f : F) (gives : (k y : ℕ) (q : F) → Called g f (k, tt) y q → (y ≡ h k) × (q ≡ f)) where
  made_from : (p : F) (ys : List ℕ) (i n : ℕ) → p ≡ f → IsFromFnResultFrom g p ys i n → (k : ℕ) → i ≤ k → k < i + n → get_or ys k 0 ≡ h k
  made_from p ys i zero e r k lo hi = absurd (omega arith)
  made_from p ys i (suc n) e (q, y, at, called, rest) k lo hi =
      let now = gives i y q (subst (λ (p : F). Called g p (i, tt) y q) e called) in
      elim (cases_eq i k) [
        | inl same ↦ subst (λ (k : ℕ). get_or ys k 0 ≡ h k) same (at.1 0 ∙ now.0)
        | inr other ↦ made_from q ys (i + 1) n now.1 rest k (omega arith) (omega arith)
      ]

  pub made : (ys : List ℕ) (n : ℕ) → IsFromFnResult g f ys n → (k : ℕ) → k < n → get_or ys k 0 ≡ h k
  made ys n r k hi = made_from f ys 0 n refl r.each k (omega arith) (omega arith)

module _ {F : Type 0} (g : Mut F (ℕ × Unit {0}) ℕ) (h : ℕ → ℕ) (f : F) (gives : (x y : ℕ) (q : F) → Called g f (x, tt) y q → (y ≡ h x) × (q ≡ f)) where
  mapped_from : (p : F) (xs ys : List ℕ) (i n : ℕ) → p ≡ f → MapsFrom g p xs ys i n → (k : ℕ) → i ≤ k → k < i + n → get_or ys k 0 ≡ h (get_or xs k 0)
  mapped_from p xs ys i zero e r k lo hi = absurd (omega arith)
  mapped_from p xs ys i (suc n) e (q, x, y, from, at, called, rest) k lo hi =
      let now = gives x y q (subst (λ (p : F). Called g p (x, tt) y q) e called) in
      elim (cases_eq i k) [
        | inl same ↦ subst (λ (k : ℕ). get_or ys k 0 ≡ h (get_or xs k 0)) same (at.1 0 ∙ now.0 ∙ ap h (sym (from.1 0)))
        | inr other ↦ mapped_from q xs ys (i + 1) n now.1 rest k (omega arith) (omega arith)
      ]

  pub mapped : (xs ys : List ℕ) (n : ℕ) → IsMapOf g f xs ys n → (k : ℕ) → k < n → get_or ys k 0 ≡ h (get_or xs k 0)
  mapped xs ys n r k hi = mapped_from f xs ys 0 n refl r.each k (omega arith) (omega arith)

-- a state and a word by their entries
pub state_by : (f : ℕ → ℕ → ℕ) (ys : List ℕ) → length ys ≡ 16 → ((k : ℕ) → k < 16 → get_or ys k 0 ≡ f (k % 4) (k / 4)) → ys ≡ state f
state_by f ys size h = fill_by_all (λ (k : ℕ). f (k % 4) (k / 4)) ys 16 0 size h

pub word_by : (f : ℕ → ℕ) (ys : List ℕ) → length ys ≡ 4 → ((k : ℕ) → k < 4 → get_or ys k 0 ≡ f k) → ys ≡ word_of f
word_by f ys size h = fill_by_all f ys 4 0 size h

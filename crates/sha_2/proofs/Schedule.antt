-- The words of the message schedule, however long it has become.
-- Assumes nothing.
use Rattle.std.proofs.Common.{◌≡◌, ℕ, zero, suc, ◌-◌, ◌<◌, ◌≤◌, List, [], length, get_or, sym, refl, ap, ◌∙◌, inl, inr, eq-or-lt_of_le, arith, length-append, le-ltb, lt-ltb}
use lib.ListN.{get_or-append}
use lib.Seq.{get_or_at}
use Rattle.hashes.specs.declared.Hash.{Hash}
use Rattle.sha_2.specs.Block.{M, mixed, schedule}

module _ (h : Hash) (block : List ℕ) where
  length_schedule : (n : ℕ) → length (schedule h block n) ≡ n
  unfolding schedule
  length_schedule zero = refl
  length_schedule (suc n) = length-append (schedule h block n) _ ∙ omega (arith, length_schedule n)

  -- a word stays when others follow
  kept : (n t i : ℕ) → i < t → t ≤ n → get_or (schedule h block n) i 0 ≡ get_or (schedule h block t) i 0
  unfolding schedule
  kept zero t i below within = absurd (omega arith)
  kept (suc n) t i below within =
      elim (eq-or-lt_of_le within) [
        | inl e ↦ ap (λ (x : ℕ). get_or (schedule h block x) i 0) (sym e)
        | inr less ↦ get_or-append (schedule h block n) _ 0 i (omega (arith, length_schedule n)) ∙ kept n t i below (omega arith)
      ]

  -- one of the block's own
  pub own_word : (n t : ℕ) → t < n → t < 16 → get_or (schedule h block n) t 0 ≡ M h block t
  unfolding schedule
  own_word n t within first =
      kept n (suc t) t (omega arith) within
      ∙ get_or_at (schedule h block t) _ [] 0 t (length_schedule t)
      ∙ rw (lt-ltb t 16 first)

  -- one of the others
  pub mixed_word : (n t : ℕ) → t < n → 16 ≤ t → get_or (schedule h block n) t 0 ≡ mixed h (schedule h block n) t
  unfolding schedule
  mixed_word n t within later =
      kept n (suc t) t (omega arith) within
      ∙ get_or_at (schedule h block t) _ [] 0 t (length_schedule t)
      ∙ rw (le-ltb t 16 later, before (t - 2) (omega arith), before (t - 7) (omega arith), before (t - 15) (omega arith), before (t - 16) (omega arith))
    where
      before : (i : ℕ) → i < t → get_or (schedule h block t) i 0 ≡ get_or (schedule h block n) i 0
      before i below = sym (kept n t i below (omega arith))

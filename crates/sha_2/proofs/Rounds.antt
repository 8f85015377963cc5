-- The rounds of a block, one after the other, with sixteen words of the schedule at hand.
-- Assumes nothing.
use Rattle.std.proofs.Common.{◌≡◌, ℕ, suc, ◌+◌, ◌-◌, ◌%◌, ◌<◌, ◌≤◌, ◌⊎◌, List, length, get_or, set, sym, refl, ap, ◌∙◌, inl, inr, eq-or-lt_of_le, add-one, arith, length-set, get_or-set_other, get_or-set_same}
use Rattle.hashes.specs.declared.Hash.{Hash}
use Rattle.hashes.specs.declared.Hash.TheVariants.{Sha256, Sha512}
use Rattle.sha_2.specs.Numbers.{Numbers}
use Rattle.sha_2.specs.Constants.{K}
use Rattle.sha_2.specs.Block.{turns, M, mix, mixed, schedule, round_of, rounds, sum_of, after_block}
use Rattle.sha_2.specs.InnerTurned.{Turned}
use Rattle.sha_2.proofs.Schedule.{own_word, mixed_word}

-- both hashes have 64 rounds
pub early : (h : Hash) {t : ℕ} → t < 64 → t < turns h
early Sha256 below = below
early Sha512 below = omega arith

-- and one has no more
pub few : (h : Hash) → (turns h ≡ 80 → ⊥) → 64 ≡ turns h
few Sha256 more = refl
few Sha512 more = absurd (more refl)

-- no round yet
pub none_turned : (h : Hash) (block : List ℕ) (v : Numbers) (w : List ℕ) → length w ≡ 16 → Turned h block v 0 v w
unfolding rounds
none_turned h block v w long = record { long = long; words = λ i below within. absurd (omega arith); variables = refl }

-- round t, with its constant k and a word x that takes its place in the array
module _ (h : Hash) (block : List ℕ) (v0 : Numbers) (t : ℕ) (v r : Numbers) (w : List ℕ) (k x : ℕ) (before : Turned h block v0 t v w) (constant : k ≡ get_or (K h) t 0)
    (rounded : r ≡ round_of h v k x) (within : t < turns h) where
  turned : x ≡ get_or (schedule h block (turns h)) t 0 → Turned h block v0 (t + 1) r (set w (t % 16) x)
  unfolding rounds
  turned is =
      record {
        long = length-set w (t % 16) x ∙ before.long;
        words = λ i below near. go i near (eq-or-lt_of_le below);
        variables = rw add-one (rounded ∙ rw (before.variables, constant, is));
      }
    where
      go : (i : ℕ) → t + 1 ≤ i + 16 → (suc i ≡ t + 1) ⊎ (suc i < t + 1) → get_or (set w (t % 16) x) (i % 16) 0 ≡ get_or (schedule h block (turns h)) i 0
      go i near (inl e) =
          let last : i ≡ t = omega arith in
          rw last (get_or-set_same w (t % 16) x 0 (omega (arith, before.long)) ∙ is)
      go i near (inr less) =
          get_or-set_other w (t % 16) (i % 16) x 0 (λ e. omega arith) ∙ before.words i (omega arith) (omega arith)

  -- a word of the block's own
  pub first_turned : t < 16 → x ≡ M h block t → Turned h block v0 (t + 1) r (set w t x)
  first_turned first is =
      let place : t % 16 ≡ t = omega arith in
      rw place at (turned (is ∙ sym (own_word h block (turns h) t within first)))

  -- a word that is made from four of those in the array
  pub later_turned : 16 ≤ t → x ≡ mix h (get_or w ((t - 2) % 16) 0) (get_or w ((t - 7) % 16) 0) (get_or w ((t - 15) % 16) 0) (get_or w ((t - 16) % 16) 0)
      → Turned h block v0 (t + 1) r (set w (t % 16) x)
  later_turned later is =
      let word = before.words in
      let same : mix h (get_or w ((t - 2) % 16) 0) (get_or w ((t - 7) % 16) 0) (get_or w ((t - 15) % 16) 0) (get_or w ((t - 16) % 16) 0) ≡ mixed h (schedule h block (turns h)) t =
      rw (word (t - 2) (omega arith) (omega arith), word (t - 7) (omega arith) (omega arith), word (t - 15) (omega arith) (omega arith), word (t - 16) (omega arith) (omega arith))
      in
      turned (is ∙ same ∙ sym (mixed_word h block (turns h) t within later))

-- the last round, and the sums
pub all_turned : (h : Hash) (block : List ℕ) (v : Numbers) {x r : Numbers} {w : List ℕ} {t : ℕ} → t ≡ turns h → Turned h block v t x w → r ≡ sum_of h v x → r ≡ after_block h v block
unfolding after_block
all_turned h block v e through summed = summed ∙ ap (sum_of h v) (rw e at through.variables)

-- The key schedule grows by a word at its end.
-- Assumes nothing.
use mathlib.Core.List.{List, ◌++◌}
use mathlib.Core.Path.{◌≡◌, refl, sym, ap, ap₂, ◌∙◌}
use Prim.Native.Nat.{ℕ, suc, ◌+◌, ◌-◌, ◌*◌, ◌%◌, ◌^◌, ◌≤◌, ◌<◌}
use native.Mathlib.Omega.{arith}
use borrow.Author.Tests.{eqb-true}
use lib.Dec.{eqb}
use lib.ListN.{length, take, drop}
use lib.Seq.{get_or-take, take_at, take_all}
use Rattle.cells.specs.Runs.{spliced, fronted}
use Rattle.cells.proofs.Tests.{every_at}
use Rattle.cells.proofs.Runs.{front_spliced}
use Rattle.aes.specs.Field.{xtimes, power_of_x}
use Rattle.aes.specs.Cipher.{scheduled, word_at, xor_word, temp, next_word, expanded, key_expansion}

-- the round constants of AES-256 are powers of two as numbers, too
pub constant : (n : ℕ) → n < 7 → 1 * 2 ^ n % 256 ≡ power_of_x n
unfolding xtimes power_of_x
constant n h = eqb-true _ _ (every_at (λ (k : ℕ). eqb (1 * 2 ^ k % 256) (power_of_x k)) 7 refl n h)

scheduled_before : (w : List ℕ) (n i r : ℕ) → i < n → r < 4 → scheduled (take (4 * n) w) i r ≡ scheduled w i r
unfolding scheduled
scheduled_before w n i r h k = get_or-take (4 * n) w (4 * i + r) 0 (omega arith)

-- a word is read among the words before word n
word_before : (w : List ℕ) (n i : ℕ) → i < n → word_at (take (4 * n) w) i ≡ word_at w i
unfolding word_at
word_before w n i h =
    rw (scheduled_before w n i 0 h (omega arith), scheduled_before w n i 1 h (omega arith), scheduled_before w n i 2 h (omega arith), scheduled_before w n i 3 h (omega arith))

next_before : (w : List ℕ) (i : ℕ) → 8 ≤ i → next_word (take (4 * i) w) i ≡ next_word w i
unfolding next_word
next_before w i h =
    ap₂ (λ (s t : List ℕ). xor_word s (temp t i)) (word_before w i (i - 8) (omega arith)) (word_before w i (i - 1) (omega arith))

pub length_next : (w : List ℕ) (i : ℕ) → length (next_word w i) ≡ 4
unfolding next_word xor_word
length_next w i = refl

grown : (key w : List ℕ) (n i : ℕ) → 8 + n ≡ i → take (4 * i) w ≡ expanded key n → take (4 * i) w ++ next_word w i ≡ expanded key (suc n)
unfolding expanded
grown key w n i e h =
    ap₂ ◌++◌ h (sym (next_before w i (omega arith)) ∙ ap₂ next_word h (sym e))

-- a turn of the loop that expands a key
pub extended : (key w : List ℕ) (i : ℕ) → 8 ≤ i → 4 * i + 4 ≤ length w → take (4 * i) w ≡ expanded key (i - 8)
    → take (4 * (i + 1)) (spliced w (4 * i) (next_word w i)) ≡ expanded key (i + 1 - 8)
extended key w i lo hi h =
    let e : suc (i - 8) ≡ i + 1 - 8 = omega arith in
    front_spliced w (next_word w i) (4 * i) (4 * (i + 1)) (omega arith) (omega (arith, length_next w i))
    ∙ grown key w (i - 8) i (omega arith) h
    ∙ ap (expanded key) e

-- the schedule before its first turn, and after its last
pub begun : (key w : List ℕ) → length key ≡ 32 → take 32 (fronted key w) ≡ expanded key 0
unfolding fronted expanded
begun key w h = take_at key (drop (length key) w) 32 h

pub whole : (key w : List ℕ) (i : ℕ) → i ≡ 60 → length w ≡ 240 → take (4 * i) w ≡ expanded key (i - 8) → w ≡ key_expansion key
unfolding key_expansion
whole key w i e h t =
    let f : i - 8 ≡ 52 = omega arith in
    sym (take_all (4 * i) w (omega arith)) ∙ t ∙ ap (expanded key) f

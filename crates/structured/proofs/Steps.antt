-- The texts that are read, byte by byte: what a byte adds, and what is left at the end.
-- Assumes nothing.
use mathlib.Core.Path.{◌≡◌, sym, ap, ◌∙◌}
use mathlib.Core.List.{List, [], ◌∷◌, ◌++◌}
use mathlib.Core.Bool.{Bool, true, false, not, cond, ◌&&◌, and-true}
use Prim.Native.Nat.{ℕ, zero, suc, ◌+◌, ◌-◌, ◌*◌, ◌^◌, ◌≤◌, ◌<◌}
use native.Mathlib.Nat.{pow-le-pow_right, zero-add}
use native.Mathlib.Numerals.{add-one}
use native.Mathlib.Omega.{arith}
use borrow.Author.Tests.{not-true, leb-true}
use lib.Dec.{eqb, leb, lit≤}
use lib.ListN.{length, get_or, take, drop, length-take, drop_of_length-le}
use lib.Seq.{take_all, take-take, take-suc, drop-cons}
use Rattle.cells.specs.Spans.{all, Spans}
use Rattle.cells.specs.Decimal.{value_after}
use Rattle.names.specs.Extra.{comma}
use Rattle.structured.specs.Texts.{SP, quote, backslash}
use Rattle.structured.specs.Reading.{unescaped_after, unescaped, unlisted, digit, digits_in, IntegerIs}
use Rattle.structured.specs.declared.reading.Integer.{Integer}
use Rattle.cells.proofs.Tests.{tested, both}
use Rattle.cells.proofs.Digits.{value_append}
use Rattle.cells.proofs.Spans.{span_all}

-- of bytes that all pass each does
all_at : (p : ℕ → Bool) (xs : List ℕ) → all p xs ≡ true → (k : ℕ) → k < length xs → p (get_or xs k 0) ≡ true
unfolding all
all_at p [] h k l = absurd (omega arith)
all_at p (x ∷ xs) h zero l = (both (p x) (all p xs) h).0
all_at p (x ∷ xs) h (suc k) l = all_at p xs (both (p x) (all p xs) h).1 k (omega arith)

-- no more bytes than there were
unescaped_after_lem : (after : Bool) (xs : List ℕ) → length (unescaped_after after xs) ≤ length xs
unfolding unescaped_after
unescaped_after_lem after [] = lit≤ tt
unescaped_after_lem true (b ∷ bs) = omega (arith, unescaped_after_lem false bs)
unescaped_after_lem false (b ∷ bs) =
    tested (eqb b backslash) (λ e. rw e (omega (arith, unescaped_after_lem true bs))) (λ e. rw e (omega (arith, unescaped_after_lem false bs)))

pub unescaped_size : (xs : List ℕ) → length (unescaped xs) ≤ length xs
unfolding unescaped
unescaped_size xs = unescaped_after_lem false xs

pub unlisted_size : (xs : List ℕ) → length (unlisted xs) ≤ length xs
unfolding unlisted
unlisted_size [] = lit≤ tt
unlisted_size (b ∷ bs) =
    let more = unlisted_size bs in
    tested (eqb b quote) (λ e. rw e (omega arith)) (λ e. rw e (omega arith))

-- a byte that is left out, and one that is kept
module _ (b : ℕ) (bs : List ℕ) where
  skipped : (after : Bool) → (eqb b backslash && not after) ≡ true → unescaped_after after (b ∷ bs) ≡ unescaped_after (eqb b backslash && not after) bs
  unfolding unescaped_after
  skipped after e =
      let parts = both (eqb b backslash) (not after) e in
      rw (not-true after parts.1, parts.0)

  kept : (after : Bool) → (eqb b backslash && not after) ≡ false → unescaped_after after (b ∷ bs) ≡ b ∷ unescaped_after (eqb b backslash && not after) bs
  unfolding unescaped_after
  kept true e = rw e
  kept false e = rw (sym (and-true (eqb b backslash)) ∙ e)

  dropped : eqb b quote ≡ true → unlisted (b ∷ bs) ≡ unlisted bs
  unfolding unlisted
  dropped e = rw e

  stays : eqb b quote ≡ false → unlisted (b ∷ bs) ≡ cond (eqb b SP) comma b ∷ unlisted bs
  unfolding unlisted
  stays e = rw e

module _ (xs : List ℕ) (i : ℕ) (h : i < length xs) where
  pub unescaped_skip : (after : Bool) → (eqb (get_or xs i 0) backslash && not after) ≡ true
      → unescaped_after after (drop i xs) ≡ unescaped_after (eqb (get_or xs i 0) backslash && not after) (drop (i + 1) xs)
  unescaped_skip after e = rw (add-one, drop-cons xs i 0 h) (skipped (get_or xs i 0) (drop (suc i) xs) after e)

  pub unescaped_keep : (after : Bool) → (eqb (get_or xs i 0) backslash && not after) ≡ false
      → unescaped_after after (drop i xs) ≡ (get_or xs i 0 ∷ []) ++ unescaped_after (eqb (get_or xs i 0) backslash && not after) (drop (i + 1) xs)
  unescaped_keep after e = rw (add-one, drop-cons xs i 0 h) (kept (get_or xs i 0) (drop (suc i) xs) after e)

  pub unlisted_skip : eqb (get_or xs i 0) quote ≡ true → unlisted (drop i xs) ≡ unlisted (drop (i + 1) xs)
  unlisted_skip e = rw (add-one, drop-cons xs i 0 h) (dropped (get_or xs i 0) (drop (suc i) xs) e)

  pub unlisted_keep : (b : ℕ) → b ≡ cond (eqb (get_or xs i 0) SP) comma (get_or xs i 0) → eqb (get_or xs i 0) quote ≡ false
      → unlisted (drop i xs) ≡ (b ∷ []) ++ unlisted (drop (i + 1) xs)
  unlisted_keep b k e = rw (add-one, drop-cons xs i 0 h, k) (stays (get_or xs i 0) (drop (suc i) xs) e)

  pub value_more : (v : ℕ) → v ≡ value_after 0 (take i xs) → v * 10 + (get_or xs i 0 - 48) ≡ value_after 0 (take (i + 1) xs)
  unfolding value_after
  value_more v e = rw (add-one, take-suc xs i 0 h, value_append 0 (take i xs) (get_or xs i 0 ∷ []), e)

-- nothing is left
pub unescaped_past : (xs : List ℕ) (i : ℕ) (after : Bool) → length xs ≤ i → unescaped_after after (drop i xs) ≡ []
unfolding unescaped_after
unescaped_past xs i after h = rw (drop_of_length-le xs {i = i} h)

pub unlisted_past : (xs : List ℕ) (i : ℕ) → length xs ≤ i → unlisted (drop i xs) ≡ []
unfolding unlisted
unlisted_past xs i h = rw (drop_of_length-le xs {i = i} h)

-- each of the digits at the front of a run is one
pub digit_at : (xs : List ℕ) (n : ℕ) → Spans digit xs 0 n → (k : ℕ) → k < length (take n xs) → digit (get_or (take n xs) k 0) ≡ true
digit_at xs n s k h =
    let whole : n - 0 ≡ n = omega arith in
    all_at digit (take n xs) (rw whole at (span_all digit xs 0 n s)) k h

-- and they are 15 at most
pub few : (run first : List ℕ) (n : ℕ) → first ≡ take 15 run → length (take n first) ≤ 15
few run first n e = rw e (omega (arith, length-take n (take 15 run), length-take 15 run))

pub digit_range : (b : ℕ) → digit b ≡ true → (48 ≤ b) × (b ≤ 57)
digit_range b e =
    let parts = both (leb 48 b) (leb b 57) e in
    (leb-true 48 b parts.0, leb-true b 57 parts.1)

-- fourteen digits make a number that is far from 2 ^ 64
pub value_small : (k v : ℕ) → k ≤ 14 → v + 1 ≤ 10 ^ k → v < 100000000000000
value_small k v h g = omega (arith, pow-le-pow_right {n = 10} (omega arith) h)

pub value_bound : (k v b : ℕ) → v + 1 ≤ 10 ^ k → digit b ≡ true → v * 10 + (b - 48) + 1 ≤ 10 ^ (k + 1)
value_bound k v b g e = rw (add-one k) (omega (arith, digit_range b e))

-- the digits are those at the front of the first 15 bytes
pub integer_is : (run : List ℕ) (r : Integer) (i : ℕ) → Spans digit (take 15 run) 0 r.digits → r.value ≡ value_after 0 (take i (take r.digits (take 15 run)))
    → length (take r.digits (take 15 run)) ≤ i → IntegerIs run r
integer_is run r i s e h =
    let size = s.is ∙ zero-add (digits_in run) in
    let few : r.digits ≤ 15 = omega (arith, s.within, length-take 15 run) in
    record {
      digits = size;
      value = e ∙ ap (value_after 0) (take_all i (take r.digits (take 15 run)) h ∙ take-take r.digits 15 run few)
          ∙ ap (λ (k : ℕ). value_after 0 (take k run)) size;
    }

-- Laws of the parts of a line: where each ends.
-- Assumes nothing.
use Rattle.std.proofs.Common.{Option, Some, None}
use mathlib.Core.Path.{◌≡◌, refl, sym, ap, ap₂, ◌∙◌}
use mathlib.Core.List.{List, [], ◌∷◌}
use mathlib.Core.Bool.{Bool, true, false, ◌&&◌, and-false, and_assoc}
use Prim.Native.Nat.{ℕ, suc, ◌+◌, ◌≤◌, ◌<◌}
use native.Mathlib.Decide.{dec_lt}
use native.Mathlib.Numerals.{add-one}
use native.Mathlib.Omega.{arith}
use borrow.Author.Tests.{eqb-true, ltb-true, ltb-false, lt-ltb, le-ltb, eq-eqb, ne_eqb, not-false}
use lib.Dec.{eqb, ltb}
use lib.ListN.{length, get_or, drop, length-drop, drop_of_length-le}
use lib.Seq.{drop-cons, drop-drop, get_or-drop}
use Rattle.cells.specs.Runs.{same}
use Rattle.cells.specs.Spans.{all, leading, Spans}
use Rattle.cells.proofs.Tests.{tested, both}
use Rattle.logs.specs.Line.{Kind, ◌then◌, byte, space, date, other, one_or_more, digit, size}
use Rattle.logs.specs.InnerParts.{word_part, date_part, request_part, PastIs}
use Rattle.logs.proofs.Texts.{is_other, byte_then, byte_none, word_ends, date_ends, quoted, request_quote, request_plain, request_shield, request_none}

-- a space, after what has to be good
abbrev pub after : Bool → Kind → Kind
after good rest xs = good && (space then rest) xs

-- the first byte that fails
halts : (p : ℕ → Bool) (xs : List ℕ) → leading p xs < length xs → p (get_or xs (leading p xs) 0) ≡ false
unfolding leading
halts p [] h = absurd (omega (arith, h))
halts p (x ∷ xs) h = tested (p x) (λ e. rw e (halts p xs (omega (arith, rw e at h)))) (λ e. rw (e, e) refl)

module _ (xs : List ℕ) where
  -- the byte at an index, and the rest
  pub byte_at : (d : ℕ) (b : Kind) (i : ℕ) → i < length xs → (byte d then b) (drop i xs) ≡ (eqb (get_or xs i 0) d && b (drop (i + 1) xs))
  byte_at d b i h = rw (add-one, drop-cons xs i 0 h) (byte_then d b (get_or xs i 0) (drop (suc i) xs))

  byte_past : (d : ℕ) (b : Kind) (i : ℕ) → length xs ≤ i → (byte d then b) (drop i xs) ≡ false
  byte_past d b i h = rw (drop_of_length-le xs {i = i} h) (byte_none d b)

  -- a part that ends where another does
  past_as : (a b : Kind → Kind) (at end : ℕ) → ((rest : Kind) → a rest (drop at xs) ≡ b rest (drop end xs)) → (r : Option ℕ) → PastIs b xs end r → PastIs a xs at r
  past_as a b at end e None p = λ rest. e rest ∙ p rest
  past_as a b at end e (Some r) p = record { is = λ rest. e rest ∙ p.is rest; within = p.within }

  pub space_none : (good : Bool) (end : ℕ) → end ≡ length xs → PastIs (after good) xs end None
  space_none good end h = λ rest. ap (λ (t : Bool). good && t) (byte_past 32 rest end (omega arith)) ∙ and-false good

  pub space_there : (good : Bool) (end : ℕ) → end < length xs → (good && eqb (get_or xs end 0) 32) ≡ true → PastIs (after good) xs end (Some (end + 1))
  space_there good end h t =
      let parts = both good (eqb (get_or xs end 0) 32) t in
      record { is = λ rest. rw (byte_at 32 rest end h, parts.0, parts.1) refl; within = omega arith }

  pub space_missing : (good : Bool) (end : ℕ) → end < length xs → (good && eqb (get_or xs end 0) 32) ≡ false → PastIs (after good) xs end None
  space_missing good end h t =
      λ rest. rw (byte_at 32 rest end h, ← (and_assoc good (eqb (get_or xs end 0) 32) (rest (drop (end + 1) xs))), t) refl

  -- where a word ends
  pub word_past : (at end : ℕ) (r : Option ℕ) → Spans (other 32) xs at end → PastIs (after (ltb at end)) xs end r → PastIs word_part xs at r
  word_past at end r s = past_as word_part (after (ltb at end)) at end (λ rest.
      word_ends rest (drop at xs)
      ∙ ap₂ ◌&&◌ size (ap (space then rest) (drop-drop (leading (other 32) (drop at xs)) at xs ∙ ap (λ (n : ℕ). drop n xs) (sym s.is))))
      r
    where
      size : ltb 0 (leading (other 32) (drop at xs)) ≡ ltb at end
      size =
          tested (ltb at end) (λ e. lt-ltb 0 (leading (other 32) (drop at xs)) (omega (arith, s.is, ltb-true at end e)) ∙ sym e)
          (λ e. le-ltb 0 (leading (other 32) (drop at xs)) (omega (arith, s.is, ltb-false at end e)) ∙ sym e)

  -- a search that stops has found what it looked for
  pub found : (b at r : ℕ) → Spans (other b) xs at r → r < length xs → get_or xs r 0 ≡ b
  unfolding other
  found b at r s h =
      let k = leading (other b) (drop at xs) in
      let stop : other b (get_or (drop at xs) k 0) ≡ false = halts (other b) (drop at xs) (omega (arith, s.is, length-drop at xs)) in
      eqb-true (get_or xs r 0) b (not-false _ (rw (s.is, ← (get_or-drop at xs k 0)) stop))

  -- where a date ends
  date_front : (at end : ℕ) (b : Kind) → at < length xs → Spans (other 93) xs at end
      → (byte 91 then date then byte 93 then b) (drop at xs) ≡ (eqb (get_or xs at 0) 91 && (byte 93 then b) (drop end xs))
  unfolding leading
  date_front at end b h s =
      let k = leading (other 93) (drop (at + 1) xs) in
      byte_at 91 (date then byte 93 then b) at h
      ∙ tested (eqb (get_or xs at 0) 91)
      (λ e. let opens = is_other 93 (get_or xs at 0) (omega (arith, eqb-true (get_or xs at 0) 91 e)) in
      let ends : at + 1 + k ≡ end =
      omega (arith, rw (drop-cons xs at 0 h, opens) at s.is, ap (λ (n : ℕ). leading (other 93) (drop n xs)) (add-one at)) in
      rw e (date_ends b (drop (at + 1) xs)
      ∙ ap (byte 93 then b) (drop-drop k (at + 1) xs ∙ ap (λ (n : ℕ). drop n xs) ends)))
      (λ e. rw e refl)

  pub date_past : (at end : ℕ) (r : Option ℕ) → Spans (other 93) xs at end → end < length xs
      → PastIs (after (eqb (get_or xs at 0) 91)) xs (end + 1) r → PastIs date_part xs at r
  date_past at end r s h = past_as date_part (after (eqb (get_or xs at 0) 91)) at (end + 1) (λ rest.
      date_front at end (space then rest) (omega (arith, s.is)) s
      ∙ ap (λ (t : Bool). eqb (get_or xs at 0) 91 && t) (byte_at 93 (space then rest) end h ∙ rw (eq-eqb (get_or xs end 0) 93 (found 93 at end s h)) refl))
      r

  pub date_none : (at end : ℕ) → Spans (other 93) xs at end → end ≡ length xs → PastIs date_part xs at None
  date_none at end s h = λ rest. elim (dec_lt at (length xs)) [
    | yes l ↦
        date_front at end (space then rest) l s
        ∙ ap (λ (t : Bool). eqb (get_or xs at 0) 91 && t) (byte_past 93 (space then rest) end (omega arith)) ∙ and-false (eqb (get_or xs at 0) 91)
    | no l ↦ byte_past 91 (date then byte 93 then space then rest) at (omega arith)
  ]

  -- a search for the quote that ends a request has come from index at to index i
  abbrev pub Searched : ℕ → ℕ → Type 0
  Searched at i = (rest : Kind) → quoted rest false (drop at xs) ≡ quoted rest false (drop i xs)

  pub searched_plain : (at i : ℕ) → Searched at i → i < length xs → (get_or xs i 0 ≡ 34 → ⊥) → (get_or xs i 0 ≡ 92 → ⊥) → Searched at (i + 1)
  searched_plain at i g h n m rest = g rest ∙ rw (add-one, drop-cons xs i 0 h) (request_plain rest (get_or xs i 0) (drop (suc i) xs) n m)

  pub searched_shield : (at i : ℕ) → Searched at i → i < length xs → get_or xs i 0 ≡ 92 → Searched at (i + 2)
  searched_shield at i g h e rest =
      let next : suc i + 1 ≡ i + 2 = omega arith in
      g rest ∙ ap (quoted rest false) (drop-cons xs i 0 h) ∙ request_shield rest (get_or xs i 0) (drop (suc i) xs) e
      ∙ ap (quoted rest false) (drop-drop 1 (suc i) xs ∙ ap (λ (n : ℕ). drop n xs) next)

  -- the byte before what was searched
  request_front : (at i : ℕ) (rest : Kind) → at < length xs → Searched (at + 1) i
      → request_part rest (drop at xs) ≡ (eqb (get_or xs at 0) 34 && quoted (space then rest) false (drop i xs))
  request_front at i rest h g =
      byte_at 34 (quoted (space then rest) false) at h ∙ ap (λ (t : Bool). eqb (get_or xs at 0) 34 && t) (g (space then rest))

  pub request_past : (at i : ℕ) (r : Option ℕ) → Searched (at + 1) i → at < i → i < length xs → get_or xs i 0 ≡ 34
      → PastIs (after (eqb (get_or xs at 0) 34)) xs (i + 1) r → PastIs request_part xs at r
  request_past at i r g l h e = past_as request_part (after (eqb (get_or xs at 0) 34)) at (i + 1) (λ rest.
      request_front at i rest (omega arith) g
      ∙ ap (λ (t : Bool). eqb (get_or xs at 0) 34 && t) (rw (add-one, drop-cons xs i 0 h) (request_quote (space then rest) (get_or xs i 0) (drop (suc i) xs) e)))
      r

  pub request_missing : (at i : ℕ) → Searched (at + 1) i → length xs ≤ i → PastIs request_part xs at None
  request_missing at i g h = λ rest. elim (dec_lt at (length xs)) [
    | yes l ↦
        request_front at i rest l g
        ∙ ap (λ (t : Bool). eqb (get_or xs at 0) 34 && t) (rw (drop_of_length-le xs {i = i} h) (request_none (space then rest)))
        ∙ and-false (eqb (get_or xs at 0) 34)
    | no l ↦ byte_past 34 (quoted (space then rest) false) at (omega arith)
  ]

-- a size is a dash alone, or digits
pub size_dash : (xs : List ℕ) → 0 < length xs → get_or xs 0 0 ≡ 45 → eqb (length xs) 1 ≡ size xs
unfolding size one_or_more same all digit
size_dash [] h e = absurd (omega (arith, h))
size_dash (x ∷ []) h e = rw e refl
size_dash (x ∷ y ∷ xs) h e = rw e (ne_eqb (suc (suc (length xs))) 1 (omega arith))

pub size_digits : (xs : List ℕ) → 0 < length xs → (get_or xs 0 0 ≡ 45 → ⊥) → all digit xs ≡ size xs
unfolding size one_or_more same
size_digits [] h n = absurd (omega (arith, h))
size_digits (x ∷ []) h n = rw (ne_eqb 45 x (λ e. n (sym e))) refl
size_digits (x ∷ y ∷ xs) h n = refl

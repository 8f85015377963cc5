-- A line has one status: its parts end where they end, whatever the status is.
-- Assumes nothing.
use mathlib.Core.Path.{◌≡◌, sym, ◌∙◌}
use mathlib.Core.List.{List, [], ◌∷◌}
use mathlib.Core.Bool.{Bool, true, false, false≢true}
use Prim.Native.Nat.{ℕ, ◌≤◌, ◌<◌}
use borrow.Author.Tests.{eqb-true, eqb-false}
use lib.Dec.{eqb, leb, ltb}
use lib.ListN.{length, take, drop}
use Rattle.cells.specs.Decimal.{decimal}
use Rattle.cells.specs.Spans.{leading}
use Rattle.cells.proofs.Digits.{decimal_injective}
use Rattle.cells.proofs.Equality.{same_equal}
use Rattle.cells.proofs.Tests.{tested, both}
use Rattle.logs.specs.Line.{Kind, ◌then◌, byte, space, date, other, status, size, common_log, line}
use Rattle.logs.specs.InnerParts.{word_part, date_part, request_part, status_part}
use Rattle.logs.proofs.Texts.{byte_then, byte_none, word_ends, date_ends, quoted, request_quote, request_more, shielded_more, request_none}
use Rattle.logs.proofs.Statuses.{status_front}

module _ (s t : ℕ) where
  -- bytes of both kinds show that the two statuses are one
  abbrev Tells : Kind → Kind → Type 0
  Tells a b = (xs : List ℕ) → a xs ≡ true → b xs ≡ true → s ≡ t

  module _ (a b : Kind) (f : Tells a b) where
    byte_tells : (d : ℕ) → Tells (byte d then a) (byte d then b)
    byte_tells d [] p q = absurd (false≢true (sym (byte_none d a) ∙ p))
    byte_tells d (x ∷ xs) p q =
        f xs (both (eqb x d) (a xs) (sym (byte_then d a x xs) ∙ p)).1 (both (eqb x d) (b xs) (sym (byte_then d b x xs) ∙ q)).1

    quoted_tells : (shielded : Bool) → Tells (quoted a shielded) (quoted b shielded)
    quoted_tells false [] p q = absurd (false≢true (sym (request_none a) ∙ p))
    quoted_tells true [] p q = absurd (false≢true (sym (shielded_more a [] ∙ request_none a) ∙ p))
    quoted_tells true (x ∷ xs) p q = quoted_tells false xs (sym (shielded_more a (x ∷ xs)) ∙ p) (sym (shielded_more b (x ∷ xs)) ∙ q)
    quoted_tells false (x ∷ xs) p q =
        tested (eqb x 34)
        (λ e. let quote = eqb-true x 34 e in f xs (sym (request_quote a x xs quote) ∙ p) (sym (request_quote b x xs quote) ∙ q))
        (λ e. let none = eqb-false x 34 e in quoted_tells (eqb x 92) xs (sym (request_more a x xs none) ∙ p) (sym (request_more b x xs none) ∙ q))

  word_tells : (a b : Kind) → Tells a b → Tells (word_part a) (word_part b)
  word_tells a b f xs p q =
      let k = leading (other 32) xs in
      byte_tells a b f 32 (drop k xs) (both (ltb 0 k) ((space then a) (drop k xs)) (sym (word_ends a xs) ∙ p)).1
      (both (ltb 0 k) ((space then b) (drop k xs)) (sym (word_ends b xs) ∙ q)).1

  date_tells : (a b : Kind) → Tells a b → Tells (date_part a) (date_part b)
  date_tells a b f =
      byte_tells (date then byte 93 then space then a) (date then byte 93 then space then b)
      (λ xs p q. byte_tells (space then a) (space then b) (byte_tells a b f 32) 93 (drop (leading (other 93) xs) xs)
      (sym (date_ends (space then a) xs) ∙ p) (sym (date_ends (space then b) xs) ∙ q))
      91

  request_tells : (a b : Kind) → Tells a b → Tells (request_part a) (request_part b)
  request_tells a b f =
      byte_tells (quoted (space then a) false) (quoted (space then b) false) (quoted_tells (space then a) (space then b) (byte_tells a b f 32) false) 34

  module _ (ls : 100 ≤ s) (us : s < 600) (lt : 100 ≤ t) (ut : t < 600) where
    status_tells : Tells (status_part s) (status_part t)
    status_tells xs p q =
        let one = (both (status s (take 3 xs)) ((space then size) (drop 3 xs)) (sym (status_front s xs ls us) ∙ p)).0 in
        let other = (both (status t (take 3 xs)) ((space then size) (drop 3 xs)) (sym (status_front t xs lt ut) ∙ q)).0 in
        decimal_injective s t (same_equal (decimal s) (take 3 xs) one ∙ sym (same_equal (decimal t) (take 3 xs) other))

    pub one_status : (l : List ℕ) → line s l ≡ true → line t l ≡ true → s ≡ t
    unfolding line common_log
    one_status l p q =
        word_tells _ _ (word_tells _ _ (word_tells _ _ (date_tells _ _ (request_tells _ _ status_tells)))) l
        (both (leb (length l) 8192) (common_log s l) p).1 (both (leb (length l) 8192) (common_log t l) q).1

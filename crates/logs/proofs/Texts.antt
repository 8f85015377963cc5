-- Laws of kinds of text in a row: what is left to say of a run whose first part is known.
-- Assumes nothing.
use mathlib.Core.Path.{◌≡◌, refl, sym, ap, ap₂, ◌∙◌}
use mathlib.Core.List.{List, [], ◌∷◌}
use mathlib.Core.Bool.{Bool, true, false, not, ◌&&◌, ◌||◌, and_assoc, and_comm, or-false}
use Prim.Native.Nat.{ℕ, suc}
use native.Mathlib.Omega.{arith}
use borrow.Author.Tests.{eqb-true, eqb-false, not-true, lt-ltb, eq-eqb, ne_eqb}
use lib.Dec.{eqb, ltb}
use lib.ListN.{length, take, drop}
use Rattle.cells.specs.Runs.{same}
use Rattle.cells.specs.Spans.{all, leading}
use Rattle.cells.proofs.Tests.{tested}
use Rattle.logs.specs.Line.{Kind, ◌then◌, byte, one_or_more, other, space, word, date, request_after}

-- nothing begins with a text of a kind that no text is
never_then : (b : Kind) (xs : List ℕ) → ◌then◌ (λ ys. false) b xs ≡ false
unfolding ◌then◌
never_then b [] = refl
never_then b (x ∷ xs) = never_then b xs

then_alike : (a c b : Kind) → ((ys : List ℕ) → a ys ≡ c ys) → (xs : List ℕ) → (a then b) xs ≡ (c then b) xs
unfolding ◌then◌
then_alike a c b e [] = ap (λ (t : Bool). t && b []) (e [])
then_alike a c b e (x ∷ xs) =
    ap₂ (λ (s t : Bool). s && b (x ∷ xs) || t) (e []) (then_alike (λ ys. a (x ∷ ys)) (λ ys. c (x ∷ ys)) b (λ ys. e (x ∷ ys)) xs)

-- a test that is no matter of the text
gated : (t : Bool) (a b : Kind) (xs : List ℕ) → ◌then◌ (λ ys. t && a ys) b xs ≡ (t && (a then b) xs)
gated true a b xs = refl
gated false a b xs = never_then b xs

-- a text that is given
pub given_then : (ds : List ℕ) (b : Kind) (xs : List ℕ) → (same ds then b) xs ≡ (same ds (take (length ds) xs) && b (drop (length ds) xs))
unfolding ◌then◌ same
given_then [] b [] = refl
given_then [] b (x ∷ xs) = ap (λ (t : Bool). b (x ∷ xs) || t) (never_then b xs) ∙ or-false (b (x ∷ xs))
given_then (d ∷ ds) b [] = refl
given_then (d ∷ ds) b (x ∷ xs) =
    let rest = b (drop (length ds) xs) in
    let front = same ds (take (length ds) xs) in
    then_alike (λ ys. same ds ys && eqb d x) (λ ys. eqb d x && same ds ys) b (λ ys. and_comm (same ds ys) (eqb d x)) xs
    ∙ gated (eqb d x) (same ds) b xs
    ∙ ap (λ (t : Bool). eqb d x && t) (given_then ds b xs)
    ∙ sym (and_assoc (eqb d x) front rest)
    ∙ ap (λ (t : Bool). t && rest) (and_comm (eqb d x) front)

-- a byte that is given
module _ (d : ℕ) (b : Kind) where
  pub byte_then : (x : ℕ) (xs : List ℕ) → (byte d then b) (x ∷ xs) ≡ (eqb x d && b xs)
  unfolding same
  byte_then x xs =
      given_then (d ∷ []) b (x ∷ xs)
      ∙ ap (λ (t : Bool). t && b xs) (tested (eqb x d) (λ e. eq-eqb d x (sym (eqb-true x d e)) ∙ sym e) (λ e. ne_eqb d x (λ q. eqb-false x d e (sym q)) ∙ sym e))

  pub byte_none : (byte d then b) [] ≡ false
  unfolding ◌then◌ same
  byte_none = refl

  -- no other byte
  byte_stops : (x : ℕ) (xs : List ℕ) → other d x ≡ true → (byte d then b) (x ∷ xs) ≡ false
  unfolding other
  byte_stops x xs e = byte_then x xs ∙ rw (not-true (eqb x d) e) refl

-- bytes that pass, before what begins with none that does
module _ (p : ℕ → Bool) (b : Kind) (stops : (x : ℕ) (xs : List ℕ) → p x ≡ true → b (x ∷ xs) ≡ false) where
  all_then : (xs : List ℕ) → (all p then b) xs ≡ b (drop (leading p xs) xs)
  unfolding ◌then◌ all leading
  all_then [] = refl
  all_then (x ∷ xs) =
      ap (λ (t : Bool). b (x ∷ xs) || t) (gated (p x) (all p) b xs)
      ∙ tested (p x) (λ e. rw (stops x xs e, e) (all_then xs)) (λ e. rw e (or-false (b (x ∷ xs))))

  some_then : (xs : List ℕ) → (one_or_more p then b) xs ≡ (ltb 0 (leading p xs) && b (drop (leading p xs) xs))
  unfolding ◌then◌ one_or_more all leading
  some_then [] = refl
  some_then (x ∷ xs) =
      gated (p x) (all p) b xs
      ∙ tested (p x) (λ e. rw (e, lt-ltb 0 (suc (leading p xs)) (omega arith)) (all_then xs)) (λ e. rw e refl)

-- a word ends at the first space, a date at the first bracket
pub word_ends : (b : Kind) (xs : List ℕ) → (word then space then b) xs ≡ (ltb 0 (leading (other 32) xs) && (space then b) (drop (leading (other 32) xs) xs))
word_ends b = some_then (other 32) (space then b) (byte_stops 32 b)

pub date_ends : (b : Kind) (xs : List ℕ) → (date then byte 93 then b) xs ≡ (byte 93 then b) (drop (leading (other 93) xs) xs)
date_ends b = all_then (other 93) (byte 93 then b) (byte_stops 93 b)

-- a byte, and another
pub not_other : (b x : ℕ) → x ≡ b → other b x ≡ false
unfolding other
not_other b x e = ap not (eq-eqb x b e)

pub is_other : (b x : ℕ) → (x ≡ b → ⊥) → other b x ≡ true
unfolding other
is_other b x n = ap not (ne_eqb x b n)

-- a request, and the quote that ends it; whether the byte before shields the first
module _ (rest : Kind) where
  abbrev pub quoted : Bool → Kind
  quoted shielded = request_after shielded then byte 34 then rest

  -- the byte at its front
  request_front : (x : ℕ) (xs : List ℕ) → quoted false (x ∷ xs) ≡ (eqb x 34 && rest xs || other 34 x && quoted (eqb x 92) xs)
  unfolding ◌then◌ request_after
  request_front x xs =
      ap₂ (λ (s t : Bool). s || t) (byte_then 34 rest x xs) (gated (other 34 x) (request_after (eqb x 92)) (byte 34 then rest) xs)

  pub request_more : (x : ℕ) (xs : List ℕ) → (x ≡ 34 → ⊥) → quoted false (x ∷ xs) ≡ quoted (eqb x 92) xs
  request_more x xs n = request_front x xs ∙ rw (ne_eqb x 34 n, is_other 34 x n) refl

  pub request_quote : (x : ℕ) (xs : List ℕ) → x ≡ 34 → quoted false (x ∷ xs) ≡ rest xs
  request_quote x xs e = request_front x xs ∙ rw (eq-eqb x 34 e, not_other 34 x e) (or-false (rest xs))

  pub request_plain : (x : ℕ) (xs : List ℕ) → (x ≡ 34 → ⊥) → (x ≡ 92 → ⊥) → quoted false (x ∷ xs) ≡ quoted false xs
  request_plain x xs n m = request_more x xs n ∙ ap (λ (t : Bool). quoted t xs) (ne_eqb x 92 m)

  -- a backslash, and the byte that it shields
  pub shielded_more : (xs : List ℕ) → quoted true xs ≡ quoted false (drop 1 xs)
  unfolding ◌then◌ request_after same
  shielded_more [] = refl
  shielded_more (x ∷ xs) = refl

  pub request_shield : (x : ℕ) (xs : List ℕ) → x ≡ 92 → quoted false (x ∷ xs) ≡ quoted false (drop 1 xs)
  request_shield x xs e = request_more x xs (omega (arith, e)) ∙ ap (λ (t : Bool). quoted t xs) (eq-eqb x 92 e) ∙ shielded_more xs

  -- it needs a quote
  pub request_none : quoted false [] ≡ false
  unfolding ◌then◌ request_after same
  request_none = refl

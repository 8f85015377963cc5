-- Laws of the lines of a text: where one ends, and where the next begins.
-- Assumes nothing.
use mathlib.Core.Path.{◌≡◌, refl, sym, ap, ap₂, ◌∙◌}
use mathlib.Core.List.{List, [], ◌∷◌, ◌++◌, append_assoc}
use mathlib.Core.Bool.{true}
use Prim.Native.Nat.{ℕ, ◌+◌, ◌-◌, ◌<◌}
use native.Mathlib.Numerals.{add-one}
use native.Mathlib.Omega.{arith}
use borrow.Author.Tests.{not-true}
use lib.Dec.{eqb}
use lib.ListN.{length, take, drop}
use lib.Seq.{take-suc, take-add}
use Rattle.cells.specs.Runs.{cut}
use Rattle.cells.specs.Spans.{all, Spans}
use Rattle.cells.proofs.Cuts.{cut_rest}
use Rattle.cells.proofs.Spans.{span_all}
use Rattle.cells.proofs.Tests.{both}
use Rattle.logs.specs.Line.{other}
use Rattle.logs.specs.Counts.{LF, lines}
use Rattle.logs.specs.Taken.{Ended}
use Rattle.logs.proofs.Parts.{found}

-- a line that ends, and those after it
line_ends : (begun more : List ℕ) → all (other LF) begun ≡ true → lines (begun ++ LF ∷ more) ≡ begun ∷ lines more
unfolding lines all other
line_ends [] more h = refl
line_ends (b ∷ begun) more h =
    let parts = both (other LF b) (all (other LF) begun) h in
    rw (not-true (eqb b LF) parts.0, line_ends begun more parts.1) refl

-- one that does not
line_unended : (begun : List ℕ) → all (other LF) begun ≡ true → 0 < length begun → lines begun ≡ begun ∷ []
unfolding lines all other
line_unended [] h g = absurd (omega (arith, g))
line_unended (b ∷ []) h g = rw (not-true (eqb b LF) (both (other LF b) true h).0) refl
line_unended (b ∷ c ∷ begun) h g =
    let parts = both (other LF b) (all (other LF) (c ∷ begun)) h in
    rw (not-true (eqb b LF) parts.0, line_unended (c ∷ begun) parts.1 (omega arith)) refl

module _ (ended begun : List ℕ) (ends : Ended ended) (unended : all (other LF) begun ≡ true) where
  -- a line feed after it
  pub fed : lines ((ended ++ begun) ++ LF ∷ []) ≡ lines ended ++ begun ∷ []
  unfolding lines
  fed = ap lines (append_assoc ended begun (LF ∷ [])) ∙ ends (begun ++ LF ∷ []) ∙ ap (λ (ls : List (List ℕ)). lines ended ++ ls) (line_ends begun [] unended)

  pub fed_ends : Ended ((ended ++ begun) ++ LF ∷ [])
  fed_ends more =
      ap lines (append_assoc (ended ++ begun) (LF ∷ []) more ∙ append_assoc ended begun (LF ∷ more)) ∙ ends (begun ++ LF ∷ more)
      ∙ ap (λ (ls : List (List ℕ)). lines ended ++ ls) (line_ends begun more unended)
      ∙ sym (append_assoc (lines ended) (begun ∷ []) (lines more)) ∙ ap (λ (ls : List (List ℕ)). ls ++ lines more) (sym fed)

  -- none after it: the last line is one all the same
  pub unfed : 0 < length begun → lines (ended ++ begun) ≡ lines ((ended ++ begun) ++ LF ∷ [])
  unfed h = ends begun ∙ ap (λ (ls : List (List ℕ)). lines ended ++ ls) (line_unended begun unended h) ∙ sym fed

-- a line is found in a text of which those before it have ended
module _ (text : List ℕ) (at end : ℕ) (span : Spans (other LF) text at end) (feed : end < length text) where
  pub next_line : take (end + 1) text ≡ (take at text ++ cut text at end) ++ LF ∷ []
  next_line =
      let whole : at + (end - at) ≡ end = omega (arith, span.is) in
      ap (λ (n : ℕ). take n text) (add-one end) ∙ take-suc text end 0 feed
      ∙ ap₂ (λ (xs : List ℕ) (b : ℕ). xs ++ b ∷ []) (ap (λ (n : ℕ). take n text) (sym whole) ∙ take-add at (end - at) text) (found text LF at end span feed)

  pub next_told : Ended (take at text) → lines (take (end + 1) text) ≡ lines (take at text) ++ cut text at end ∷ []
  next_told ends = ap lines next_line ∙ fed (take at text) (cut text at end) ends (span_all (other LF) text at end span)

  pub next_ends : Ended (take at text) → Ended (take (end + 1) text)
  next_ends ends = rw next_line (fed_ends (take at text) (cut text at end) ends (span_all (other LF) text at end span))

-- none is found in the rest of it
pub last_unended : (text : List ℕ) (at end : ℕ) → Spans (other LF) text at end → end ≡ length text → all (other LF) (drop at text) ≡ true
last_unended text at end span e = rw (← (cut_rest text at), ← e) (span_all (other LF) text at end span)

-- a text that ends with a line, and another
pub ended_more : (a b : List ℕ) → Ended a → Ended b → Ended (a ++ b)
ended_more a b p q more =
    ap lines (append_assoc a b more) ∙ p (b ++ more) ∙ ap (λ (ls : List (List ℕ)). lines a ++ ls) (q more)
    ∙ sym (append_assoc (lines a) (lines b) (lines more)) ∙ ap (λ (ls : List (List ℕ)). ls ++ lines more) (sym (p b))

pub ended_none : Ended []
unfolding lines
ended_none more = refl

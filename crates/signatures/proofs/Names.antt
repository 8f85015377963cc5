-- Laws of components' names: which bytes they hold, and so that they stand in a base and a list as they are.
-- Assumes nothing.
use mathlib.Core.Path.{◌≡◌, refl, sym, ap, subst, ◌∙◌}
use mathlib.Core.List.{List, [], ◌∷◌, ◌++◌}
use mathlib.Core.Bool.{Bool, true, false, false≢true, ◌||◌, or-true}
use Prim.Native.Nat.{ℕ}
use borrow.Author.Tests.{eqb-true}
use lib.Dec.{eqb, ltb}
use lib.ListN.{length}
use Rattle.cells.specs.Text.{codes}
use Rattle.cells.specs.Runs.{same}
use Rattle.cells.specs.Spans.{all}
use Rattle.cells.proofs.Tests.{tested, both}
use Rattle.cells.proofs.Equality.{same_equal}
use Rattle.names.specs.Names.{has_byte, token_byte, is_token}
use Rattle.lines.specs.Lines.{LF}
use Rattle.structured.specs.Texts.{SP, quote, backslash, closing, string}
use Rattle.structured.specs.Reading.{other}
use Rattle.structured.specs.Lists.{every}
use Rattle.structured.proofs.Texts.{plain_byte, plain, escaped_plain}
use Rattle.signatures.specs.Components.{small, is_derived, is_field, is_component, all_components}
use Rattle.signatures.specs.InnerAnswers.{Quoted}

-- what a component's name may hold
abbrev component_byte : ℕ → Bool
component_byte b = eqb b 64 || token_byte b

pub all_weaker : (p q : ℕ → Bool) → ((b : ℕ) → p b ≡ true → q b ≡ true) → (xs : List ℕ) → all p xs ≡ true → all q xs ≡ true
unfolding all
all_weaker p q f [] h = refl
all_weaker p q f (x ∷ xs) h =
    let parts = both (p x) (all p xs) h in
    rw (f x parts.0) (all_weaker p q f xs parts.1)

derived_bytes : (name text : List ℕ) → all component_byte text ≡ true → same text name ≡ true → all component_byte name ≡ true
derived_bytes name text h e = subst (λ (l : List ℕ). all component_byte l ≡ true) (same_equal text name e) h

field_bytes : (name : List ℕ) → is_field name ≡ true → all component_byte name ≡ true
unfolding is_field is_token
field_bytes name h =
    let token = (both (is_token name) (all small name) h).0 in
    all_weaker token_byte component_byte (λ b e. rw e (or-true (eqb b 64))) name (both (ltb 0 (length name)) (all token_byte name) token).1

component_bytes : (name : List ℕ) → is_component name ≡ true → all component_byte name ≡ true
unfolding is_component is_derived codes all token_byte has_byte
component_bytes name h =
    tested (same (codes "@method") name) (derived_bytes name (codes "@method") refl)
    (λ m. tested (same (codes "@authority") name) (derived_bytes name (codes "@authority") refl)
    (λ a. tested (same (codes "@path") name) (derived_bytes name (codes "@path") refl) (λ p. field_bytes name (rw (m, a, p) at h))))

-- a byte that fails a test is none of those that pass it
pub passes_not : (p : ℕ → Bool) (c : ℕ) → p c ≡ false → (b : ℕ) → p b ≡ true → eqb b c ≡ false
passes_not p c never b h = tested (eqb b c) (λ e. absurd (false≢true (sym never ∙ ap p (sym (eqb-true b c e)) ∙ h))) (λ e. e)

-- so runs whose bytes all pass a test have no such byte
pub all_other : (p : ℕ → Bool) (c : ℕ) → p c ≡ false → (xs : List ℕ) → all p xs ≡ true → all (other c) xs ≡ true
all_other p c never = all_weaker p (other c) (λ b h. rw (passes_not p c never b h) refl)

module _ (name : List ℕ) (h : is_component name ≡ true) where
  pub component_plain : plain name ≡ true
  unfolding token_byte has_byte codes
  component_plain =
      all_weaker component_byte plain_byte
      (λ b e. let not_at : (c : ℕ) → component_byte c ≡ false → eqb b c ≡ false = λ c never. passes_not component_byte c never b e in
      simp (not_at quote refl, not_at backslash refl, not_at SP refl, not_at closing refl)) name (component_bytes name h)

  pub component_line_lem : all (other LF) name ≡ true
  unfolding token_byte has_byte codes
  component_line_lem = all_other component_byte LF refl name (component_bytes name h)

  pub component_quoted : Quoted name
  unfolding string
  component_quoted = ap (λ (l : List ℕ). quote ∷ (l ++ (quote ∷ []))) (escaped_plain name component_plain)

-- and the same of each of some names
pub every_weaker : (p q : List ℕ → Bool) → ((n : List ℕ) → p n ≡ true → q n ≡ true) → (ns : List (List ℕ)) → every p ns ≡ true → every q ns ≡ true
unfolding every
every_weaker p q f [] h = refl
every_weaker p q f (n ∷ ns) h =
    let parts = both (p n) (every p ns) h in
    rw (f n parts.0) (every_weaker p q f ns parts.1)

pub components_plain : (ns : List (List ℕ)) → all_components ns ≡ true → every plain ns ≡ true
unfolding all_components
components_plain = every_weaker is_component plain component_plain

pub components_line : (ns : List (List ℕ)) → all_components ns ≡ true → every (all (other LF)) ns ≡ true
unfolding all_components
components_line = every_weaker is_component (all (other LF)) component_line_lem

-- Exactly one base belongs to a message and its parameters, where the message has each component and none is listed twice; and none otherwise.
-- Assumes nothing.
use mathlib.Core.Path.{◌≡◌, refl, sym, ap, ap₂, ◌∙◌}
use mathlib.Core.List.{List, [], ◌∷◌, ◌++◌}
use mathlib.Core.Bool.{true, false, false≢true, ◌||◌}
use Prim.Native.Nat.{ℕ}
use Rattle.cells.proofs.Tests.{tested}
use Rattle.names.specs.Extra.{extra_names as listed}
use Rattle.signatures.specs.Components.{Message, values_of, no_value, twice, missing}
use Rattle.signatures.specs.Base.{params, component_line, component_lines, last_line, base_with, base}
use Rattle.signatures.specs.Belongs.{LinesOf, none, line, BaseOf, ExactlyOne}

module _ (m : Message) where
  -- the lines are those of the definition, and they are there if no component is missing
  lines_are : (ns : List (List ℕ)) (text : List ℕ) → LinesOf m ns text → text ≡ component_lines m ns
  unfolding component_lines
  lines_are [] text none = refl
  lines_are (n ∷ ns) text (line some is more) = ap₂ (λ (v rest : List ℕ). component_line n v ++ rest) is (lines_are ns _ more)

  lines_have : (ns : List (List ℕ)) → missing m ns ≡ false → LinesOf m ns (component_lines m ns)
  unfolding component_lines missing
  lines_have [] h = none
  lines_have (n ∷ ns) h = tested (no_value (values_of m n)) (λ e. absurd (false≢true (sym h ∙ rw e)))
      (λ e. line e refl (lines_have ns (rw e at h)))

  lines_need : (ns : List (List ℕ)) (text : List ℕ) → LinesOf m ns text → missing m ns ≡ false
  unfolding missing
  lines_need [] text none = refl
  lines_need (n ∷ ns) text (line some is more) = rw some (lines_need ns _ more)

  module _ (names : List ℕ) (created : ℕ) (key_id : List ℕ) where
    pub only_base : (text : List ℕ) → BaseOf m names created key_id text → text ≡ base m names created key_id
    unfolding base base_with
    only_base text b = b.is ∙ ap (λ (ls : List ℕ). ls ++ last_line (params names created key_id)) (lines_are (listed names) b.lines b.are)

    pub exactly_one : twice (listed names) ≡ false → missing m (listed names) ≡ false → ExactlyOne (BaseOf m names created key_id)
    unfolding base base_with
    exactly_one once has = record {
      text = base m names created key_id;
      belongs = record { once = once; lines = component_lines m (listed names); are = lines_have (listed names) has; is = refl };
      only = only_base;
    }

    -- none, where a component is listed twice or missing
    pub none_of : (text : List ℕ) → (twice (listed names) || missing m (listed names)) ≡ true → BaseOf m names created key_id text → ⊥
    none_of text h b = false≢true (sym (rw b.once (lines_need (listed names) b.lines b.are)) ∙ h)

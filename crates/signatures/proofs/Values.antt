-- Laws of values at the front of a buffer, and of what a loop over the names of a list knows of their values.
-- Assumes nothing.
use mathlib.Core.Path.{◌≡◌, refl, sym, ap, ◌∙◌}
use mathlib.Core.List.{List, [], ◌∷◌, ◌++◌, append-nil}
use mathlib.Core.Bool.{Bool, true, false, ◌&&◌, ◌||◌, and_assoc, or_assoc, and-true, or-false, or-true}
use Prim.Native.Nat.{ℕ, ◌+◌, ◌≤◌}
use native.Mathlib.Omega.{arith}
use lib.ListN.{length, take}
use Rattle.std.specs.Prelude.{Option, Some, None}
use Rattle.std.specs.Option.{unwrap_or}
use Rattle.cells.specs.InnerLaid.{Laid}
use Rattle.cells.specs.Spans.{all}
use Rattle.cells.proofs.Runs.{front_spliced, length_spliced}
use Rattle.names.specs.Names.{has_name}
use Rattle.names.specs.Extra.{comma, extra_names as listed}
use Rattle.lines.specs.Values.{space, joined}
use Rattle.lines.specs.InnerPlaces.{Stands, front_at, own_at, FoundAt, AgainIs}
use Rattle.lines.proofs.Joined.{own_more, own_alone, own_then, own_begins}
use Rattle.structured.specs.Texts.{printable}
use Rattle.structured.specs.Lists.{every}
use Rattle.structured.proofs.Laying.{Laying, laying_next, laying_more}
use Rattle.signatures.specs.Components.{Message, values_of, value_of, no_value, all_printable, twice, missing}
use Rattle.signatures.specs.InnerAnswers.{ValueOf, ValueIs, LookedAt}

-- the values joined are laid at the front
pub value_laid : {values : List (List ℕ)} {out left text : List ℕ} {size : ℕ} → no_value values ≡ false → joined values ≡ text
    → length text ≤ length out → Laid out left 0 size text → ValueOf values left size
value_laid {out = out} {text = text} {size = size} some e h l = record {
  some = some;
  within = omega (arith, l.ends, ap length l.is, length_spliced out text 0 (omega arith));
  is = ap (take size) l.is ∙ front_spliced out text 0 size (omega arith) l.ends ∙ sym e;
}

-- what is put at the front is the value; it is empty where the message lacks the component
pub value_shown : (m : Message) (name : List ℕ) (left : List ℕ) (r : Option ℕ) (size : ℕ) → ValueIs (values_of m name) left r → size ≡ unwrap_or r 0
    → take size left ≡ value_of m name
unfolding value_of joined
value_shown m name left (Some n) size v e = rw e v.is
value_shown m name left None size v e = rw (e, v) refl

-- a line that is found has a value
pub found_some : {block : List ℕ} {values : List (List ℕ)} {at place : ℕ} → FoundAt block values at place → no_value values ≡ false
found_some {block} {place = place} f = ap no_value (f.are ∙ own_more block place f.stands)

-- where the values from a line on are still to be laid, its own is laid next: the last one, or one before others
module _ {block out now text : List ℕ} {end place : ℕ} (w : Laying out now 0 end text (joined (own_at block place))) where
  pub front_fits : Stands block place → end + length (front_at block place) ≤ length now
  front_fits s = omega (arith, own_begins block place s, laying_next w (joined (own_at block place)) [] (sym (append-nil (joined (own_at block place)))))

  module _ {left value : List ℕ} {next : ℕ} (e : value ≡ front_at block place) (l : Laid now left end next value) where
    pub front_last : AgainIs block place None → Laying out left 0 next text []
    front_last a = laying_more w (own_alone block place a ∙ sym e ∙ sym (append-nil value)) l

    pub front_then : {more : ℕ} → AgainIs block place (Some more) → Laying out left 0 next text (comma ∷ space ∷ joined (own_at block more))
    front_then {more} a =
        laying_more w (own_then block place more a ∙ ap (λ (v : List ℕ). v ++ (comma ∷ space ∷ joined (own_at block more))) (sym e)) l

-- what is found so far, and what the names that are left say, tell of the whole list
pub record Looking (m : Message) (names : List ℕ) (left : List (List ℕ)) (printable again lacks : Bool) : Type 0 where
  pub values : all_printable m (listed names) ≡ (printable && all_printable m left)
  pub twice : twice (listed names) ≡ (again || twice left)
  pub missing : missing m (listed names) ≡ (lacks || missing m left)

module _ {m : Message} {names : List ℕ} where
  -- before the first name
  pub looking_start : Looking m names (listed names) true false false
  looking_start = record { values = refl; twice = refl; missing = refl }

  module _ {name : List ℕ} {left rest : List (List ℕ)} {p t g : Bool} (w : Looking m names left p t g) (e : left ≡ name ∷ rest) where
    -- a name that the message has
    pub looking_some : {buffer : List ℕ} {size : ℕ} {p' t' : Bool} → ValueOf (values_of m name) buffer size → p' ≡ all printable (take size buffer)
        → t' ≡ has_name rest name → Looking m names rest (p && p') (t || t') g
    unfolding all_printable every twice missing value_of
    looking_some {p' = p'} v q h = record {
      values = w.values ∙ rw (e, q, v.is) (sym (and_assoc p _ _));
      twice = w.twice ∙ rw (e, h) (sym (or_assoc t _ _));
      missing = w.missing ∙ rw (e, v.some) refl;
    }

    -- one that it lacks
    pub looking_none : {t' : Bool} → values_of m name ≡ [] → t' ≡ has_name rest name → Looking m names rest p (t || t') true
    unfolding all_printable every twice missing value_of joined all
    looking_none v h = record {
      values = w.values ∙ rw (e, v) refl;
      twice = w.twice ∙ rw (e, h) (sym (or_assoc t _ _));
      missing = w.missing ∙ rw (e, v) (or-true g);
    }

  pub looking_end : {left : List (List ℕ)} {p t g : Bool} → Looking m names left p t g → left ≡ []
      → LookedAt m names (record { printable = p; twice = t; missing = g })
  unfolding all_printable every twice missing
  looking_end {p = p} {t = t} {g = g} w e = record {
    printable = sym (w.values ∙ rw e (and-true p));
    twice = sym (w.twice ∙ rw e (or-false t));
    missing = sym (w.missing ∙ rw e (or-false g));
  }

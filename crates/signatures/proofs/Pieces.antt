-- The texts as the pieces that the code takes in or lays one after the other.
-- Assumes nothing.
use mathlib.Core.Path.{◌≡◌, refl, sym, ap, ◌∙◌}
use mathlib.Core.List.{List, [], ◌∷◌, ◌++◌, append_assoc, append-nil}
use mathlib.Core.Bool.{true}
use Prim.Native.Nat.{ℕ, ◌+◌, ◌*◌, ◌≤◌}
use native.Mathlib.Omega.{arith}
use lib.Dec.{lit≤}
use lib.ListN.{length, length-append}
use Rattle.cells.specs.Text.{codes}
use Rattle.cells.specs.Runs.{same}
use Rattle.cells.specs.Decimal.{decimal}
use Rattle.cells.proofs.Tests.{tested, both}
use Rattle.names.specs.Extra.{extra_names as listed}
use Rattle.names.proofs.Joined.{rejoined, names_in_joined}
use Rattle.lines.proofs.Joined.{joined_one, joined_short}
use Rattle.sha_2.specs.declared.State.{State}
use Rattle.sha_2.specs.InnerTaken.{TookIn}
use Rattle.structured.specs.Texts.{string, escaped, inner_list}
use Rattle.structured.specs.Lists.{every}
use Rattle.signatures.specs.Components.{Message, is_component, all_components, values_of, value_of}
use Rattle.signatures.specs.Base.{params, component_line, component_lines, last_line}
use Rattle.signatures.specs.Fields.{input_value, signature_text}
use Rattle.signatures.specs.InnerAnswers.{message_in, ShortMessage, Quoted, value_of_input}
use Rattle.signatures.specs.declared.message.Message as M
use Rattle.signatures.specs.declared.input.Input.{Input}
use Rattle.signatures.proofs.Names.{component_quoted}

pub took_none : (s : State) → TookIn s [] s
took_none s = record { is = refl; counted = omega arith; appended = λ h m taken. rw append-nil taken }

module _ (n v : List ℕ) (q : Quoted n) where
  pub line_pieces : component_line n v ≡ (34 ∷ []) ++ (n ++ ((34 ∷ 58 ∷ 32 ∷ []) ++ (v ++ (10 ∷ []))))
  unfolding component_line codes
  line_pieces = rw q (ap (λ (l : List ℕ). 34 ∷ l) (append_assoc n (34 ∷ []) (58 ∷ 32 ∷ (v ++ (10 ∷ [])))))

  pub line_size : length (component_line n v) ≡ length n + length v + 5
  line_size = ap length line_pieces ∙ omega (arith, length-append n (34 ∷ 58 ∷ 32 ∷ (v ++ (10 ∷ []))), length-append v (10 ∷ []))

-- the lines of some names: the first, and those after it
module _ (m : Message) {name : List ℕ} {left rest : List (List ℕ)} (e : left ≡ name ∷ rest) where
  lines_first : component_lines m left ≡ component_line name (value_of m name) ++ component_lines m rest
  unfolding component_lines
  lines_first = ap (component_lines m) e

  -- where a value that is shown is that of the first
  module _ {shown : List ℕ} (k : shown ≡ value_of m name) where
    pub lines_shown : component_lines m left ≡ component_line name shown ++ component_lines m rest
    lines_shown = lines_first ∙ ap (λ (v : List ℕ). component_line name v ++ component_lines m rest) (sym k)

    pub lines_long : length (component_lines m left) ≡ length (component_line name shown) + length (component_lines m rest)
    lines_long = ap length lines_shown ∙ length-append (component_line name shown) (component_lines m rest)

  -- each name is a component's
  pub components_first : all_components left ≡ true → (is_component name ≡ true) × (all_components rest ≡ true)
  unfolding all_components every
  components_first t = both (is_component name) _ (sym (ap all_components e) ∙ t)

pub lines_past : (m : Message) {left : List (List ℕ)} → left ≡ [] → component_lines m left ≡ []
unfolding component_lines
lines_past m e = ap (component_lines m) e

-- a component's value is no longer than what it is taken from
pub value_short : (m : Message) → ShortMessage m → (n : List ℕ) → length (value_of m n) ≤ 16384
unfolding value_of values_of
value_short m s n =
    tested (same (codes "@method") n) (λ e. rw (e, joined_one) s.method)
    (λ e. tested (same (codes "@authority") n) (λ f. rw (e, f, joined_one) s.authority)
    (λ f. tested (same (codes "@path") n) (λ g. rw (e, f, g, joined_one) s.path)
    (λ g. rw (e, f, g) (omega (arith, joined_short m.lines n, s.lines)))))

-- so lines are as long as their names and 16,389 bytes for each at most
pub lines_size : (m : Message) → ShortMessage m → (ns : List (List ℕ)) → all_components ns ≡ true
    → length (component_lines m ns) ≤ length (rejoined ns) + 16389 * length ns
unfolding component_lines all_components every
lines_size m s [] h = lit≤ tt
lines_size m s (n ∷ []) h =
    let parts = both (is_component n) true h in
    rw length-append (omega (arith, line_size n (value_of m n) (component_quoted n parts.0), value_short m s n))
lines_size m s (n ∷ o ∷ ns) h =
    let parts = both (is_component n) (every is_component (o ∷ ns)) h in
    rw (length-append (component_line n (value_of m n)), length-append n)
    (omega (arith, line_size n (value_of m n) (component_quoted n parts.0), value_short m s n, lines_size m s (o ∷ ns) parts.1))

some_names : (ns : List (List ℕ)) → length ns ≤ length (rejoined ns) + 1
some_names [] = lit≤ tt
some_names (n ∷ []) = omega arith
some_names (n ∷ o ∷ ns) = rw (length-append n) (omega (arith, some_names (o ∷ ns)))

listed_joined : (names : List ℕ) → rejoined (listed names) ≡ names
unfolding listed
listed_joined [] = refl
listed_joined (b ∷ bs) = names_in_joined (b ∷ bs)

pub base_short : (m : Message) → ShortMessage m → (names : List ℕ) → length names ≤ 1024 → all_components (listed names) ≡ true
    → length (component_lines m (listed names)) ≤ 16800000
base_short m s names h c =
    omega (arith, lines_size m s (listed names) c, some_names (listed names), ap length (listed_joined names))

-- what the parameters' line begins with
abbrev pub opening : List ℕ
opening = 34 ∷ (codes "@signature-params" ++ (34 ∷ 58 ∷ 32 ∷ []))

pub last_pieces : (ps : List ℕ) → last_line ps ≡ opening ++ ps
unfolding last_line string escaped codes
last_pieces ps = refl

-- how long the two values are
pub signature_size : (label code : List ℕ) → length (signature_text label code) ≡ length label + length code + 3
unfolding signature_text
signature_size label code = simp length-append (omega arith)

pub input_size : (r : Input) → length (value_of_input r)
    ≡ length r.label.now + length (inner_list (listed r.names.now)) + length (decimal r.created) + length (string r.key_id.now) + 17
unfolding input_value params codes
input_size r = simp length-append (omega arith)

-- a message that is lent
pub short_of : (m : M.Message) → ShortMessage (message_in m)
short_of m = record { method = m.short.0; authority = m.short.1; path = m.short.2; lines = m.short.3 }

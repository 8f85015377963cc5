-- Equal bases come from equal lists, creation times, key ids and values of components.
-- Assumes nothing.
use mathlib.Core.Path.{◌≡◌, refl, sym, ap, ap₂, ◌∙◌}
use mathlib.Core.List.{List, [], ◌∷◌, ◌++◌, append_assoc, map}
use mathlib.Core.Bool.{Bool, true, false, false≢true, ◌&&◌}
use Prim.Native.Nat.{ℕ}
use lib.ListN.{length, take, drop}
use lib.Seq.{take_at, drop_at}
use Rattle.cells.specs.Text.{codes}
use Rattle.cells.specs.Spans.{all, leading}
use Rattle.cells.specs.Decimal.{decimal}
use Rattle.cells.proofs.Tests.{both}
use Rattle.cells.proofs.Spans.{leading_append}
use Rattle.names.specs.Extra.{extra_names as listed}
use Rattle.lines.specs.Lines.{LF}
use Rattle.structured.specs.Texts.{printable, is_key, string, strings, inner_list, escaped}
use Rattle.structured.specs.Reading.{digit, other}
use Rattle.structured.specs.Lists.{every}
use Rattle.structured.proofs.Texts.{all_append, all_string, all_strings}
use Rattle.structured.proofs.Readback.{decimal_all}
use Rattle.signatures.specs.Components.{Message, is_component, value_of, all_components, all_printable}
use Rattle.signatures.specs.Base.{params, component_line, component_lines, last_line, base_with, base}
use Rattle.signatures.specs.Fields.{input_value, covered_in, time_in, key_id_in}
use Rattle.signatures.specs.Signable.{Signable}
use Rattle.signatures.proofs.Names.{all_other, component_line_lem, components_line}
use Rattle.signatures.proofs.Readback.{told_names, told_time, told_key_id}

-- a line that a line feed ends is cut off in one way, and is no last line
module _ (a b r s : List ℕ) (whole : all (other LF) a ≡ true) (also : all (other LF) b ≡ true) (same : a ++ LF ∷ r ≡ b ++ LF ∷ s) where
  size : length a ≡ length b
  size = sym (leading_append (other LF) a LF r whole refl) ∙ ap (leading (other LF)) same ∙ leading_append (other LF) b LF s also refl

  line_same : a ≡ b
  line_same = sym (take_at a (LF ∷ r) (length a) refl) ∙ ap (take (length a)) same ∙ take_at b (LF ∷ s) (length a) (sym size)

  rest_same : r ≡ s
  rest_same = ap (drop 1) (sym (drop_at a (LF ∷ r) (length a) refl) ∙ ap (drop (length a)) same ∙ drop_at b (LF ∷ s) (length a) (sym size))

fed : (a r : List ℕ) → all (other LF) (a ++ LF ∷ r) ≡ false
unfolding all
fed [] r = refl
fed (x ∷ a) r = rw (fed a r) (and_false (other LF x))
  where
    and_false : (t : Bool) → (t && false) ≡ false
    and_false true = refl
    and_false false = refl

-- a component's line without its line feed
abbrev body : Message → List ℕ → List ℕ
body m n = string n ++ (codes ": " ++ value_of m n)

line_body : (m : Message) (n rest : List ℕ) → component_line n (value_of m n) ++ rest ≡ body m n ++ LF ∷ rest
unfolding component_line codes
line_body m n rest = simp append_assoc

printable_line : (xs : List ℕ) → all printable xs ≡ true → all (other LF) xs ≡ true
printable_line = all_other printable LF refl

body_line : (m : Message) (n : List ℕ) → is_component n ≡ true → all printable (value_of m n) ≡ true → all (other LF) (body m n) ≡ true
unfolding codes all
body_line m n h g = all_append (other LF) (string n) (codes ": " ++ value_of m n) (all_string (other LF) refl refl n (component_line_lem n h)) (printable_line (value_of m n) g)

-- so two rows of such lines that are the same text before last lines are the same lines
lines_same : (m m' : Message) (ns ns' : List (List ℕ)) (last last' : List ℕ) → all_components ns ≡ true → all_printable m ns ≡ true → all_components ns' ≡ true → all_printable m' ns' ≡ true
    → all (other LF) last ≡ true → all (other LF) last' ≡ true → component_lines m ns ++ last ≡ component_lines m' ns' ++ last'
    → (map (body m) ns ≡ map (body m') ns') × (last ≡ last')
unfolding all_components all_printable every component_lines
lines_same m m' [] [] last last' c p c' p' w w' e = (refl, e)
lines_same m m' [] (n' ∷ ns') last last' c p c' p' w w' e =
    absurd (false≢true (sym (ap (all (other LF)) (e ∙ append_assoc (component_line n' (value_of m' n')) (component_lines m' ns') last' ∙ line_body m' n' _) ∙ fed (body m' n') _) ∙ w))
lines_same m m' (n ∷ ns) [] last last' c p c' p' w w' e =
    absurd (false≢true (sym (ap (all (other LF)) (sym e ∙ append_assoc (component_line n (value_of m n)) (component_lines m ns) last ∙ line_body m n _) ∙ fed (body m n) _) ∙ w'))
lines_same m m' (n ∷ ns) (n' ∷ ns') last last' c p c' p' w w' e =
    let here = both (is_component n) (every is_component ns) c in
    let there = both (is_component n') (every is_component ns') c' in
    let shown = both (all printable (value_of m n)) _ p in
    let shown' = both (all printable (value_of m' n')) _ p' in
    let first = body_line m n here.0 shown.0 in
    let first' = body_line m' n' there.0 shown'.0 in
    let text = sym (append_assoc (component_line n (value_of m n)) (component_lines m ns) last ∙ line_body m n _) ∙ e
    ∙ append_assoc (component_line n' (value_of m' n')) (component_lines m' ns') last' ∙ line_body m' n' _ in
    let more = lines_same m m' ns ns' last last' here.1 shown.1 there.1 shown'.1 w w' (rest_same (body m n) (body m' n') _ _ first first' text) in
    (ap₂ ◌∷◌ (line_same (body m n) (body m' n') _ _ first first' text) more.0, more.1)

-- lines of the same names with the same text have the same values
values_same : (m m' : Message) (ns : List (List ℕ)) → map (body m) ns ≡ map (body m') ns → map (value_of m) ns ≡ map (value_of m') ns
unfolding codes
values_same m m' [] e = refl
values_same m m' (n ∷ ns) e = ap₂ ◌∷◌ (value_same (ap first e)) (values_same m m' ns (ap rest e))
  where
    first : List (List ℕ) → List ℕ
    first [] = []
    first (x ∷ xs) = x

    rest : List (List ℕ) → List (List ℕ)
    rest [] = []
    rest (x ∷ xs) = xs

    value_same : body m n ≡ body m' n → value_of m n ≡ value_of m' n
    value_same h = ap (drop 2) (sym (drop_at (string n) _ (length (string n)) refl) ∙ ap (drop (length (string n))) h ∙ drop_at (string n) _ (length (string n)) refl)

params_line : (ns k : List ℕ) (t : ℕ) → all_components (listed ns) ≡ true → all printable k ≡ true → all (other LF) (last_line (params ns t k)) ≡ true
unfolding last_line params inner_list codes all string escaped
params_line ns k t c h =
    all_append (other LF) (strings (listed ns) ++ (41 ∷ [])) _ (all_append (other LF) (strings (listed ns)) (41 ∷ []) (all_strings (other LF) refl refl refl (listed ns) (components_line (listed ns) c)) refl)
    (all_append (other LF) (decimal t) _ (all_other digit LF refl (decimal t) (decimal_all t)) (all_string (other LF) refl refl k (printable_line k h)))

last_same : (ps qs : List ℕ) → last_line ps ≡ last_line qs → ps ≡ qs
unfolding last_line string escaped codes
last_same ps qs e = ap (drop 21) e

-- equal bases
module _ {m m' : Message} {ns ns' k k' : List ℕ} {t t' : ℕ} (s : Signable m ns t k) (s' : Signable m' ns' t' k') (same : base m ns t k ≡ base m' ns' t' k') where
  both_same : (map (body m) (listed ns) ≡ map (body m') (listed ns')) × (last_line (params ns t k) ≡ last_line (params ns' t' k'))
  unfolding base base_with
  both_same =
      lines_same m m' (listed ns) (listed ns') _ _ s.components s.values s'.components s'.values
      (params_line ns k t s.components s.identified) (params_line ns' k' t' s'.components s'.identified) same

  -- as the parameters under some label tell
  under : input_value (codes "a") ns t k ≡ input_value (codes "a") ns' t' k'
  unfolding input_value
  under = ap (λ (ps : List ℕ). codes "a" ++ (61 ∷ ps)) (last_same _ _ both_same.1)

  labelled : is_key (codes "a") ≡ true
  unfolding is_key codes all
  labelled = refl

  pub same_list : ns ≡ ns'
  same_list =
      sym (told_names ns k t s.components s.time (codes "a") labelled) ∙ ap covered_in under
      ∙ told_names ns' k' t' s'.components s'.time (codes "a") labelled

  pub same_time : t ≡ t'
  same_time =
      sym (told_time ns k t s.components s.time (codes "a") labelled) ∙ ap time_in under
      ∙ told_time ns' k' t' s'.components s'.time (codes "a") labelled

  pub same_key_id : k ≡ k'
  same_key_id =
      sym (told_key_id ns k t s.components s.time (codes "a") labelled) ∙ ap key_id_in under
      ∙ told_key_id ns' k' t' s'.components s'.time (codes "a") labelled

  pub same_values : map (value_of m) (listed ns) ≡ map (value_of m') (listed ns')
  same_values =
      values_same m m' (listed ns) (both_same.0 ∙ ap (λ (l : List ℕ). map (body m') (listed l)) (sym same_list))
      ∙ ap (λ (l : List ℕ). map (value_of m') (listed l)) same_list

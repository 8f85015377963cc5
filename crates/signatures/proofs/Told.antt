-- What is read of the two values is what they tell, and how long it is.
-- Assumes nothing.
use mathlib.Core.Path.{◌≡◌, sym, ap, ap₂, ◌∙◌}
use mathlib.Core.List.{List, [], ◌∷◌}
use mathlib.Core.Bool.{Bool, true, false, ◌&&◌, and_assoc}
use Prim.Native.Nat.{ℕ, ◌+◌, ◌-◌, ◌≤◌}
use native.Mathlib.Nat.{zero-add}
use native.Mathlib.Omega.{arith}
use lib.Dec.{lit≤}
use lib.ListN.{length, take, drop, length-append, length-take, length-drop}
use lib.Seq.{length-take-le}
use Rattle.cells.specs.Text.{codes}
use Rattle.cells.specs.Runs.{same}
use Rattle.cells.specs.InnerLaid.{Laid}
use Rattle.cells.specs.Spans.{all, leading, Spans}
use Rattle.cells.specs.Decimal.{value_after}
use Rattle.cells.proofs.Tests.{tested, both}
use Rattle.cells.proofs.Runs.{front_spliced, length_spliced}
use Rattle.cells.proofs.Digits.{decimal_length}
use Rattle.names.specs.Extra.{extra_names as listed}
use Rattle.base_64.specs.Decoding.{decoded}
use Rattle.structured.specs.Texts.{is_key, printable}
use Rattle.structured.specs.Reading.{unescaped, unlisted, digit, digits_in, other, but_last, IntegerIs}
use Rattle.structured.specs.declared.reading.Integer.{Integer}
use Rattle.structured.proofs.Texts.{list_size, escaped_size, string_length}
use Rattle.structured.proofs.Steps.{unescaped_size, unlisted_size}
use Rattle.structured.proofs.Readback.{read_size}
use Rattle.signatures.specs.Components.{all_components}
use Rattle.signatures.specs.Base.{params}
use Rattle.signatures.specs.Fields.{input_value, signature_text, label_in, list_in, covered_in, created_in, time_in, key_in, key_id_in, good_input, code_in, of_digest, good_signature}
use Rattle.signatures.specs.InnerAnswers.{value_of_input, Tells}
use Rattle.signatures.specs.declared.input.Input.{Input}
use Rattle.signatures.proofs.Names.{components_plain}

-- no more than there were
taken : (n : ℕ) (xs : List ℕ) → length (take n xs) ≤ length xs
taken n xs = rw length-take (omega arith)

dropped : (n : ℕ) (xs : List ℕ) → length (drop n xs) ≤ length xs
dropped n xs = rw length-drop (omega arith)

-- a text laid at the front
module _ {out left text : List ℕ} {r : ℕ} (h : length text ≤ length out) (l : Laid out left 0 r text) where
  pub laid_within : r ≤ length left
  laid_within = omega (arith, l.ends, ap length l.is, length_spliced out text 0 (omega arith))

  pub laid_front : take r left ≡ text
  laid_front = ap (take r) l.is ∙ front_spliced out text 0 r (omega arith) l.ends

-- a run's front that passes
leading_within : (p : ℕ → Bool) (xs : List ℕ) → leading p xs ≤ length xs
unfolding leading
leading_within p [] = lit≤ tt
leading_within p (x ∷ xs) = tested (p x) (λ e. rw e (omega (arith, leading_within p xs))) (λ e. rw e (omega arith))

spanned : {p : ℕ → Bool} {xs : List ℕ} {n : ℕ} → Spans p xs 0 n → n ≡ leading p xs
spanned {p} {xs} s = s.is ∙ zero-add (leading p xs)

pub digits_few : {run : List ℕ} {r : Integer} → IntegerIs run r → r.digits ≤ 15
digits_few {run} i = omega (arith, i.digits, leading_within digit (take 15 run), length-take 15 run)

pub label_told : (value : List ℕ) {n : ℕ} → Spans (other 61) value 0 n → take n value ≡ label_in value
unfolding label_in
label_told value s = ap (λ (n : ℕ). take n value) (spanned s)

-- what a value tells is no longer than it
module _ (input : List ℕ) where
  abbrev close : ℕ
  close = leading (other 41) (list_in input)

  label_short : length (label_in input) ≤ length input
  unfolding label_in
  label_short = taken (leading (other 61) input) input

  list_short : length (take close (list_in input)) ≤ length input
  unfolding list_in
  list_short = omega (arith, taken close (list_in input), dropped (leading (other 61) input + 2) input)

  names_short : length (covered_in input) ≤ length input
  unfolding covered_in
  names_short = omega (arith, unlisted_size (take close (list_in input)), list_short)

  key_short : length (but_last (key_in input)) ≤ length input
  unfolding key_in created_in list_in
  key_short =
      let last = dropped (digits_in (created_in input) + 8) (created_in input) in
      let from = dropped (close + 10) (list_in input) in
      omega (arith, taken (length (key_in input) - 1) (key_in input), last, from, dropped (leading (other 61) input + 2) input)

  key_id_short : length (key_id_in input) ≤ length input
  unfolding key_id_in
  key_id_short = omega (arith, unescaped_size (but_last (key_in input)), key_short)

label_size : (value : List ℕ) {label : List ℕ} → label ≡ label_in value → length label ≡ leading (other 61) value
unfolding label_in
label_size value l = ap length l ∙ length-take-le (leading (other 61) value) value (leading_within (other 61) value)

-- a value of Signature-Input as it is read, step by step
pub record Reading (input label list from last : List ℕ) (close : ℕ) (time : Integer) : Type 0 where
  pub labelled : label ≡ label_in input
  pub past_label : list ≡ drop (length label + 2) input
  pub list_ends : Spans (other 41) list 0 close
  pub past_list : from ≡ drop (close + 10) list
  pub is_time : IntegerIs from time
  pub past_time : last ≡ drop (time.digits + 8) from

module _ {input label list from last : List ℕ} {close : ℕ} {time : Integer} (r : Reading input label list from last close time) where
  list_is : list ≡ list_in input
  unfolding list_in
  list_is = r.past_label ∙ ap (λ (n : ℕ). drop (n + 2) input) (label_size input r.labelled)

  close_is : close ≡ leading (other 41) (list_in input)
  close_is = spanned r.list_ends ∙ ap (leading (other 41)) list_is

  from_is : from ≡ created_in input
  unfolding created_in
  from_is = r.past_list ∙ ap₂ (λ (n : ℕ) (l : List ℕ). drop (n + 10) l) close_is list_is

  last_is : last ≡ key_in input
  unfolding key_in
  last_is = r.past_time ∙ ap₂ (λ (n : ℕ) (l : List ℕ). drop (n + 8) l) (r.is_time.digits ∙ ap digits_in from_is) from_is

  -- what stands in the list and between the quotes of the key id
  inner_is : take close list ≡ take (leading (other 41) (list_in input)) (list_in input)
  inner_is = ap₂ (λ (n : ℕ) (l : List ℕ). take n l) close_is list_is

  quoted_is : {quoted : List ℕ} → quoted ≡ but_last last → quoted ≡ but_last (key_in input)
  quoted_is e = e ∙ ap (λ (l : List ℕ). but_last l) last_is

  pub list_room : length (take close list) ≤ length input
  list_room = omega (arith, ap length inner_is, list_short input)

  pub key_room : {quoted : List ℕ} → quoted ≡ but_last last → length quoted ≤ length input
  key_room e = omega (arith, ap length (quoted_is e), key_short input)

  -- names and key id are laid in buffers that have room for the value
  pub names_told : {out left : List ℕ} {n : ℕ} → length input ≤ length out → Laid out left 0 n (unlisted (take close list))
      → (n ≤ length left) × (take n left ≡ covered_in input)
  unfolding covered_in
  names_told {out = out} room l =
      let fit : length (unlisted (take close list)) ≤ length out = omega (arith, unlisted_size (take close list), list_room, room) in
      (laid_within fit l, laid_front fit l ∙ ap unlisted inner_is)

  pub key_told : {out left quoted : List ℕ} {k : ℕ} → length input ≤ length out → quoted ≡ but_last last → Laid out left 0 k (unescaped quoted)
      → (k ≤ length left) × (take k left ≡ key_id_in input)
  unfolding key_id_in
  key_told {out = out} {quoted = quoted} room e l =
      let fit : length (unescaped quoted) ≤ length out = omega (arith, unescaped_size quoted, key_room e, room) in
      (laid_within fit l, laid_front fit l ∙ ap unescaped (quoted_is e))

  pub label_within : length label ≤ length input
  label_within = omega (arith, ap length r.labelled, label_short input)

  pub label_front : take (length label) input ≡ label_in input
  unfolding label_in
  label_front = ap (λ (n : ℕ). take n input) (label_size input r.labelled)

  pub time_told : time.value ≡ time_in input
  unfolding time_in
  time_told = r.is_time.value ∙ ap (λ (run : List ℕ). value_after 0 (take (digits_in run) run)) from_is

-- what is read of a value of Signature is what it tells
pub code_told : (signature : List ℕ) {label rest code : List ℕ} → label ≡ label_in signature → rest ≡ drop (length label + 2) signature → code ≡ take 44 rest
    → code ≡ code_in signature
unfolding code_in
code_told signature l e c = c ∙ ap (take 44) e ∙ ap (λ (n : ℕ). take 44 (drop (n + 2) signature)) (label_size signature l)

module _ (signature : List ℕ) {label code : List ℕ} (l : label ≡ label_in signature) (e : code ≡ code_in signature) where
  pub signature_room : length signature ≤ 4096 → length (signature_text label code) ≤ 4160
  unfolding signature_text code_in codes
  signature_room h =
      rw (length-append label)
      (omega (arith, ap length l, ap length e, label_short signature, length-append code (58 ∷ []), length-take 44 (drop (leading (other 61) signature + 2) signature)))

  pub signature_judged : {k d s : Bool} {shown : List ℕ} → k ≡ is_key label → d ≡ of_digest (decoded code) → s ≡ same shown signature
      → shown ≡ signature_text label code → (k && (d && s)) ≡ good_signature signature
  unfolding good_signature
  signature_judged key digest again is = rw (key, digest, again, is, l, e)

-- what is found of what a value of Signature-Input tells, before it is written again
module _ {text : List ℕ} {told : Input} {k c p : Bool} (w : Tells text told) (key : k ≡ is_key told.label.now)
    (good : c ≡ all_components (listed told.names.now)) (shown : p ≡ all printable told.key_id.now) where
  input_parts : good_input text ≡ ((k && (c && p)) && same (value_of_input told) text)
  unfolding good_input
  input_parts = rw (key, good, shown, w.label, w.names, w.created, w.key_id) (simp and_assoc)

  pub input_refused : (k && (c && p)) ≡ false → false ≡ good_input text
  input_refused h = sym (input_parts ∙ rw h)

  pub input_judged : (k && (c && p)) ≡ true → {s : Bool} {anew : List ℕ} → s ≡ same anew text → anew ≡ value_of_input told → s ≡ good_input text
  input_judged h again is = sym (input_parts ∙ rw (h, again, is))

  pub input_room : (k && (c && p)) ≡ true → length text ≤ 4096 → length (value_of_input told) ≤ 24832
  unfolding input_value params time_in codes
  input_room h short =
      let plain = components_plain (listed told.names.now) (sym good ∙ (both c p (both k (c && p) h).1).0) in
      let labelled : length told.label.now ≤ length text = rw w.label (label_short text) in
      let few : length told.names.now ≤ length text = rw w.names (names_short text) in
      let identified : length told.key_id.now ≤ length text = rw w.key_id (key_id_short text) in
      let dated = decimal_length 14 told.created (omega (arith, w.created, read_size (created_in text))) in
      simp length-append (omega (arith, list_size told.names.now plain, string_length told.key_id.now, escaped_size told.key_id.now))

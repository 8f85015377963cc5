-- What the two values are written of is what they tell. So they are in form, and exactly one label, list, time and key id belong to a value.
-- Assumes nothing.
use mathlib.Core.Path.{◌≡◌, refl, sym, ap, ◌∙◌}
use mathlib.Core.List.{List, [], ◌∷◌, ◌++◌, append_assoc}
use mathlib.Core.Bool.{true}
use Prim.Native.Nat.{ℕ, ◌+◌, ◌-◌, ◌≤◌}
use native.Mathlib.Omega.{arith}
use borrow.Author.Tests.{eq-eqb}
use lib.ListN.{length, take, drop, length-append}
use lib.Seq.{take_at, drop_at, drop-drop}
use Rattle.cells.specs.Text.{codes}
use Rattle.cells.specs.Runs.{Bytes}
use Rattle.cells.specs.Spans.{all, leading}
use Rattle.cells.specs.Decimal.{decimal, value_after}
use Rattle.cells.proofs.Tests.{both}
use Rattle.cells.proofs.Spans.{leading_append}
use Rattle.cells.proofs.Equality.{same_self, same_equal}
use Rattle.names.specs.Names.{has_byte}
use Rattle.names.specs.Extra.{extra_names as listed}
use Rattle.lines.specs.Lines.{colon}
use Rattle.base_64.specs.Encoding.{encoded}
use Rattle.base_64.specs.Decoding.{decoded}
use Rattle.base_64.proofs.Exactly.{decoded_exactly}
use Rattle.base_64.proofs.Encoded.{length_encoded}
use Rattle.structured.specs.Texts.{opening, closing, quote, key_start, key_byte, is_key, printable, escaped, string, strings, inner_list}
use Rattle.structured.specs.Reading.{unescaped, unlisted, last_integer, digits_in, other, but_last}
use Rattle.structured.proofs.Texts.{plain_byte, plain, all_strings}
use Rattle.structured.proofs.Readback.{unescaped_escaped, unlisted_strings, decimal_read}
use Rattle.signatures.specs.Components.{all_components}
use Rattle.signatures.specs.Base.{params}
use Rattle.signatures.specs.Fields.{equals, input_value, signature_text, signature_value, label_in, list_in, covered_in, created_in, time_in, key_in, key_id_in, good_input, code_in, of_digest, good_signature}
use Rattle.signatures.proofs.Names.{all_other, every_weaker, components_plain}

-- what stands after a part and k bytes more
past : (xs rest : List ℕ) (n k : ℕ) → n ≡ length xs → drop (n + k) (xs ++ rest) ≡ drop k rest
past xs rest n k e = sym (drop-drop k n (xs ++ rest)) ∙ ap (drop k) (drop_at xs rest n (sym e))

key_bytes : (l : List ℕ) → is_key l ≡ true → all key_byte l ≡ true
unfolding is_key all
key_bytes [] h = refl
key_bytes (b ∷ bs) h = let parts = both (key_start b) (all key_byte bs) h in simp (parts.0, parts.1)

-- a label ends before =
module _ (l rest : List ℕ) (key : is_key l ≡ true) where
  pub label_size : leading (other equals) (l ++ equals ∷ rest) ≡ length l
  unfolding has_byte codes
  label_size = leading_append (other equals) l equals rest (all_other key_byte equals refl l (key_bytes l key)) refl

  pub label_read : label_in (l ++ equals ∷ rest) ≡ l
  unfolding label_in
  label_read = take_at l (equals ∷ rest) (leading (other equals) (l ++ equals ∷ rest)) (sym label_size)

-- the parameters, read from the list's first name on
module _ (ns k : List ℕ) (t : ℕ) (good : all_components (listed ns) ≡ true) (time : t ≤ last_integer) where
  abbrev identified : List ℕ
  identified = codes ";keyid=" ++ string k

  abbrev dated : List ℕ
  dated = codes ";created=" ++ (decimal t ++ identified)

  abbrev names : List ℕ
  names = strings (listed ns)

  list_text : params ns t k ≡ opening ∷ (names ++ closing ∷ dated)
  unfolding params inner_list
  list_text = ap (λ (r : List ℕ). opening ∷ r) (append_assoc names (closing ∷ []) dated)

  closed : leading (other closing) (names ++ closing ∷ dated) ≡ length names
  closed =
      leading_append (other closing) names closing dated
      (all_strings (other closing) refl refl refl (listed ns)
      (every_weaker plain (all (other closing)) (all_other plain_byte closing refl) (listed ns) (components_plain (listed ns) good)))
      refl

  names_told : unlisted (take (leading (other closing) (names ++ closing ∷ dated)) (names ++ closing ∷ dated)) ≡ ns
  names_told = ap unlisted (take_at names (closing ∷ dated) _ (sym closed)) ∙ unlisted_strings ns (components_plain (listed ns) good)

  created_told : drop (leading (other closing) (names ++ closing ∷ dated) + 10) (names ++ closing ∷ dated) ≡ decimal t ++ identified
  unfolding codes
  created_told = past names (closing ∷ dated) _ 10 closed

  digits_told : digits_in (decimal t ++ identified) ≡ length (decimal t)
  unfolding codes
  digits_told = (decimal_read t time (codes "keyid=" ++ string k) 59 refl).0

  time_told : value_after 0 (take (digits_in (decimal t ++ identified)) (decimal t ++ identified)) ≡ t
  time_told = ap (value_after 0) (take_at (decimal t) identified _ (sym digits_told)) ∙ (decimal_read t time [] 59 refl).1

  key_told : drop (digits_in (decimal t ++ identified) + 8) (decimal t ++ identified) ≡ escaped k ++ (quote ∷ [])
  unfolding codes string
  key_told = past (decimal t) identified _ 8 digits_told

  last_told : but_last (escaped k ++ (quote ∷ [])) ≡ escaped k
  last_told = take_at (escaped k) (quote ∷ []) (length (escaped k ++ (quote ∷ [])) - 1) (omega (arith, length-append (escaped k) (quote ∷ [])))

  module _ (l : List ℕ) (key : is_key l ≡ true) where
    abbrev input : List ℕ
    input = input_value l ns t k

    text : input ≡ l ++ equals ∷ opening ∷ (names ++ closing ∷ dated)
    unfolding input_value
    text = ap (λ (r : List ℕ). l ++ equals ∷ r) list_text

    pub told_label : label_in input ≡ l
    told_label = ap label_in text ∙ label_read l _ key

    list_told : list_in input ≡ names ++ closing ∷ dated
    unfolding list_in
    list_told = ap (λ (i : List ℕ). drop (leading (other equals) i + 2) i) text ∙ past l _ _ 2 (label_size l _ key)

    pub told_names : covered_in input ≡ ns
    unfolding covered_in
    told_names = ap (λ (r : List ℕ). unlisted (take (leading (other closing) r) r)) list_told ∙ names_told

    from_told : created_in input ≡ decimal t ++ identified
    unfolding created_in
    from_told = ap (λ (r : List ℕ). drop (leading (other closing) r + 10) r) list_told ∙ created_told

    pub told_time : time_in input ≡ t
    unfolding time_in
    told_time = ap (λ (r : List ℕ). value_after 0 (take (digits_in r) r)) from_told ∙ time_told

    pub told_key_id : key_id_in input ≡ k
    unfolding key_id_in key_in
    told_key_id =
        ap (λ (r : List ℕ). unescaped (but_last (drop (digits_in r + 8) r))) from_told
        ∙ ap (λ (r : List ℕ). unescaped (but_last r)) key_told ∙ ap unescaped last_told ∙ unescaped_escaped k

    pub input_in_form : all printable k ≡ true → good_input input ≡ true
    unfolding good_input
    input_in_form h = simp (told_label, told_names, told_time, told_key_id, key, good, h, same_self input)

-- a value in form is what is written of what it tells
module _ (input : List ℕ) (h : good_input input ≡ true) where
  pub rewritten : input ≡ input_value (label_in input) (covered_in input) (time_in input) (key_id_in input)
  unfolding good_input
  rewritten =
      let rest = (both (is_key (label_in input)) _ h).1 in
      let last = (both (all_components (listed (covered_in input))) _ rest).1 in
      sym (same_equal _ input (both (all printable (key_id_in input)) _ last).1)

-- the value of Signature
module _ (l c : List ℕ) (key : is_key l ≡ true) (size : length c ≡ 44) where
  abbrev signature : List ℕ
  signature = signature_text l c

  pub signed_label : label_in signature ≡ l
  unfolding signature_text codes
  signed_label = label_read l _ key

  pub signed_code : code_in signature ≡ c
  unfolding code_in signature_text codes
  signed_code = ap (take 44) (past l _ _ 2 (label_size l _ key)) ∙ take_at c (colon ∷ []) 44 size

  pub signature_in_form : of_digest (decoded c) ≡ true → good_signature signature ≡ true
  unfolding good_signature
  signature_in_form h = simp (signed_label, signed_code, key, h, same_self signature)

pub value_in_form : (l code : List ℕ) → is_key l ≡ true → length code ≡ 32 → Bytes code → good_signature (signature_value l code) ≡ true
unfolding signature_value
value_in_form l code key size small =
    signature_in_form l (encoded code) key (length_encoded code ∙ omega (arith, size))
    (ap of_digest ((decoded_exactly (encoded code) code small).1 refl) ∙ eq-eqb (length code) 32 size)

-- The theorems about the two calls: document 02, K13.
-- Assumes nothing.
use mathlib.Core.Path.{◌≡◌, refl, sym, ap, ◌∙◌}
use mathlib.Core.List.{List, [], ◌∷◌, ◌++◌, map}
use mathlib.Core.Bool.{true, not}
use Prim.Native.Nat.{ℕ, ◌*◌, ◌/◌, ◌%◌, ◌≤◌}
use native.Mathlib.Omega.{arith}
use borrow.Author.Tests.{eq-eqb, le-leb, eqb-true, eqb-false, not-false}
use lib.Dec.{eqb}
use lib.ListN.{length, take, length-append}
use lib.Seq.{take_at}
use Rattle.cells.specs.Text.{codes}
use Rattle.cells.specs.Runs.{same, fronted}
use Rattle.cells.specs.Numbers.{bytes_of}
use Rattle.cells.proofs.Tests.{tested, both}
use Rattle.cells.proofs.Equality.{same_self, same_equal}
use Rattle.names.specs.Extra.{extra_names as listed}
use Rattle.hashes.specs.declared.Hash.TheVariants.{Sha256}
use Rattle.hmac.proofs.Output.{length_hmac, bytes_hmac}
use Rattle.base_64.specs.Encoding.{encoded}
use Rattle.base_64.proofs.Encoded.{length_encoded}
use Rattle.structured.specs.Reading.{last_integer}
use Rattle.structured.proofs.Readback.{read_size}
use Rattle.signatures.specs.Components.{value_of}
use Rattle.signatures.specs.Base.{base, code_of}
use Rattle.signatures.specs.Belongs.{BaseOf, ExactlyOne}
use Rattle.signatures.specs.Fields.{signature_value, field_lines, label_in, covered_in, created_in, time_in, key_id_in, good_input, good_signature}
use Rattle.signatures.proofs.Alike.{same_list, same_time, same_key_id, same_values}
use Rattle.signatures.proofs.Once.{only_base, exactly_one}
use Rattle.signatures.proofs.Readback.{told_label, told_names, told_time, told_key_id, input_in_form, signed_label, value_in_form}
use Rattle.carrier.specs.Asked.{Asked, asked_fits, asked_number, Answer, answer}
use Rattle.carrier.specs.Sign.{sign_fits, sign_number, input_of, signature_of, sign_text, signed}
use Rattle.carrier.specs.Verify.{verify_fits, told_number, first_refusal, agrees, judged_number, verify_number, verified}
use Rattle.carrier.specs.Theorems.{TakenBack, SignedAt}
use Rattle.carrier.proofs.Parts.{MayBeSigned, refused_not, none_refused, Granted, granted, asked_most, components, labelled, identified, signable, fielded, input_told, sign_sized}
use Rattle.carrier.proofs.Writing.{text_short}

-- exactly one base belongs to what is asked, and the signature is its code
module _ (a : Asked) (created : ℕ) (h : asked_number a ≡ 0) where
  pub one_base : ExactlyOne (BaseOf a.message a.names created a.key_id)
  one_base = exactly_one a.message a.names created a.key_id (granted a h).once (granted a h).has

  pub signs_it : (text : List ℕ) → BaseOf a.message a.names created a.key_id text → signature_of a created ≡ signature_value a.label (code_of a.key text)
  unfolding signature_of
  signs_it text b = ap (λ (t : List ℕ). signature_value a.label (code_of a.key t)) (sym (only_base a.message a.names created a.key_id text b))

-- equal bases of what may be signed come from equal lists, times, key ids and values
module _ (a a' : Asked) (t t' : ℕ) (h : asked_number a ≡ 0) (h' : asked_number a' ≡ 0) (time : t ≤ last_integer) (time' : t' ≤ last_integer)
    (alike : base a.message a.names t a.key_id ≡ base a'.message a'.names t' a'.key_id) where
  pub equal_bases : (a.names ≡ a'.names) × (t ≡ t') × (a.key_id ≡ a'.key_id)
      × (map (value_of a.message) (listed a.names) ≡ map (value_of a'.message) (listed a'.names))
  equal_bases =
      let s = signable (granted a h) t time in
      let s' = signable (granted a' h') t' time' in
      (same_list s s' alike, same_time s s' alike, same_key_id s s' alike, same_values s s' alike)

-- what is written at a time is taken, and tells it
module _ (a : Asked) (t : ℕ) (h : asked_number a ≡ 0) (time : t ≤ last_integer) where
  abbrev input : List ℕ
  input = input_of a t

  abbrev signature : List ℕ
  signature = signature_of a t

  abbrev g : Granted a
  g = granted a h

  label_told : label_in input ≡ a.label
  unfolding input_of
  label_told = told_label a.names a.key_id t (components g) time a.label (labelled g)

  names_told : covered_in input ≡ a.names
  unfolding input_of
  names_told = told_names a.names a.key_id t (components g) time a.label (labelled g)

  time_told : time_in input ≡ t
  unfolding input_of
  time_told = told_time a.names a.key_id t (components g) time a.label (labelled g)

  key_id_told : key_id_in input ≡ a.key_id
  unfolding input_of
  key_id_told = told_key_id a.names a.key_id t (components g) time a.label (labelled g)

  input_formed : good_input input ≡ true
  unfolding input_of
  input_formed = input_in_form a.names a.key_id t (components g) time a.label (labelled g) (identified g)

  digest_size_lem : length (code_of a.key (base a.message a.names t a.key_id)) ≡ 32
  unfolding code_of
  digest_size_lem = length_hmac Sha256 a.key (base a.message a.names t a.key_id)

  signature_formed : good_signature signature ≡ true
  unfolding signature_of code_of
  signature_formed = value_in_form a.label _ (labelled g) digest_size_lem (bytes_hmac Sha256 a.key (base a.message a.names t a.key_id))

  signature_label : label_in signature ≡ a.label
  unfolding signature_of signature_value
  signature_label = signed_label a.label (encoded (code_of a.key (base a.message a.names t a.key_id))) (labelled g)
      (length_encoded _ ∙ omega (arith, digest_size_lem))

  told_none : told_number a input signature ≡ 0
  unfolding told_number
  told_none = simp (input_formed, signature_formed, label_told, signature_label, key_id_told, same_self a.label, same_self a.key_id)

  all_agree : agrees a input signature ≡ true
  unfolding agrees
  all_agree = simp (names_told, time_told, same_self a.names, same_self signature)

  pub taken : (room : List ℕ) → verify_fits a input signature room ≡ true → verified a input signature room ≡ answer 0 (bytes_of 8 t)
  unfolding verified verify_number judged_number
  taken room fits = simp (fits, h, told_none, all_agree, time_told)

-- a number below 6 that 256 divides is 0
module _ (a : Asked) (created : ℕ) (out : List ℕ) where
  sign_most : sign_number a created out ≤ 5
  unfolding sign_number
  sign_most = tested (sign_fits a created out) (λ e. rw e (asked_most a)) (λ e. rw e (omega arith))

  done : (signed a created out).number % 256 ≡ 0 → sign_number a created out ≡ 0
  unfolding signed
  done h =
      tested (eqb (sign_number a created out) 0) (eqb-true (sign_number a created out) 0)
      (λ e. let rest : sign_number a created out % 256 ≡ 0 = rw e at h in omega (arith, sign_most))

  -- what may be signed is written whole
  module _ (none : sign_number a created out ≡ 0) where
    parts : (sign_fits a created out ≡ true) × (asked_number a ≡ 0)
    unfolding sign_number
    parts = let first = refused_not (not (sign_fits a created out)) 1 (asked_number a) (λ e. omega arith) none in (not-false (sign_fits a created out) first.0, first.1)

    may : MayBeSigned a created out
    may = let sizes = sign_sized a created out parts.0 in record { sized = sizes.0; time = sizes.1; room = sizes.2; asked = parts.1 }

    made : signed a created out ≡ answer (256 * length (sign_text a created)) (fronted (sign_text a created) out)
    unfolding signed
    made = rw none refl

    left : take ((signed a created out).number / 256) (signed a created out).out ≡ field_lines (input_of a created) (signature_of a created)
    unfolding fronted sign_text
    left =
        let size : 256 * length (sign_text a created) / 256 ≡ length (sign_text a created) = omega arith in
        ap (λ (r : Answer). take (r.number / 256) r.out) made
        ∙ take_at (sign_text a created) _ (256 * length (sign_text a created) / 256) (sym size)

    -- the values are within the sizes of verify
    short : (length (input_of a created) ≤ 4096) × (length (signature_of a created) ≤ 4096)
    unfolding sign_text field_lines codes
    short =
        let input = input_of a created in
        let signature = signature_of a created in
        let whole = text_short may in
        let first = length-append input (13 ∷ 10 ∷ (codes "Signature: " ++ (signature ++ (13 ∷ 10 ∷ [])))) in
        let second = length-append signature (13 ∷ 10 ∷ []) in
        (omega (arith, whole, first), omega (arith, whole, first, second))

    fits : (room : List ℕ) → length room ≡ 8 → verify_fits a (input_of a created) (signature_of a created) room ≡ true
    unfolding verify_fits sign_fits
    fits room wide =
        simp ((both (asked_fits a) _ parts.0).0, le-leb _ 4096 short.0, le-leb _ 4096 short.1, eq-eqb _ 8 wide)

-- so verify takes what sign makes, under the same key and message
pub taken_back : (a : Asked) (created : ℕ) (out room : List ℕ) → length room ≡ 8 → (signed a created out).number % 256 ≡ 0 → TakenBack a created out room
taken_back a created out room wide h =
    let none = done a created out h in
    let may_be = may a created out none in
    record {
      input = input_of a created;
      signature = signature_of a created;
      text = left a created out none;
      taken = taken a created may_be.asked may_be.time room (fits a created out none room wide);
    }

-- verify takes nothing else: its number 0 tells that the values are those that sign writes at the time that is told
module _ (a : Asked) (input signature room : List ℕ) where
  accepted : (verified a input signature room).number ≡ 0 → verify_number a input signature room ≡ 0
  unfolding verified
  accepted h = tested (eqb (verify_number a input signature room) 0) (eqb-true (verify_number a input signature room) 0) (λ e. rw e at h)

  judged : verify_number a input signature room ≡ 0 → judged_number a input signature ≡ 0
  unfolding verify_number
  judged h = (refused_not (not (verify_fits a input signature room)) 1 (judged_number a input signature) (λ e. omega arith) h).1

  agreeing : judged_number a input signature ≡ 0 → (first_refusal (asked_number a) (told_number a input signature) ≡ 0) × (agrees a input signature ≡ true)
  unfolding judged_number
  agreeing h =
      let refused = first_refusal (asked_number a) (told_number a input signature) in
      tested (eqb refused 0)
      (λ e. (eqb-true refused 0 e, tested (agrees a input signature) (λ t. t) (λ t. let six = rw (e, t) at h in absurd (omega (arith, six)))))
      (λ e. absurd (eqb-false refused 0 e (rw e at h)))

  pub only_signed : (verified a input signature room).number ≡ 0 → SignedAt a (time_in input) input signature
  unfolding agrees time_in
  only_signed h =
      let both_agree = agreeing (judged (accepted h)) in
      let refused = none_refused (asked_number a) (told_number a input signature) both_agree.0 in
      let same_parts = both (same a.names (covered_in input)) _ both_agree.1 in
      record {
        asked = refused.0;
        time = read_size (created_in input);
        covers = input_told (fielded a input signature refused.1) (same_equal _ _ same_parts.0);
        signs = sym (same_equal _ signature same_parts.1);
      }

-- a refusal touches nothing
pub sign_untouched : (a : Asked) (created : ℕ) (out : List ℕ) → ((signed a created out).number % 256 ≡ 0 → ⊥) → (signed a created out).out ≡ out
unfolding signed
sign_untouched a created out h =
    tested (eqb (sign_number a created out) 0)
    (λ e. absurd (h (rw e (omega arith))))
    (λ e. rw e refl)

pub verify_untouched : (a : Asked) (input signature room : List ℕ) → ((verified a input signature room).number ≡ 0 → ⊥) → (verified a input signature room).out ≡ room
unfolding verified
verify_untouched a input signature room h =
    tested (eqb (verify_number a input signature room) 0) (λ e. absurd (h (rw e refl))) (λ e. rw e refl)

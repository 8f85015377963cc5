-- What a number tells of what was asked, and of what was told.
-- Assumes nothing.
use mathlib.Core.Path.{◌≡◌, refl, sym, ap, ap₂, ◌∙◌}
use mathlib.Core.List.{List, ◌∷◌}
use mathlib.Core.Bool.{Bool, true, false, not, cond, ◌&&◌}
use Prim.Native.Nat.{ℕ, ◌+◌, ◌≤◌}
use native.Mathlib.Omega.{arith}
use borrow.Author.Tests.{leb-true, eqb-true, eqb-false, not-false}
use lib.Dec.{eqb, leb, ltb}
use lib.ListN.{length, drop}
use lib.Seq.{drop_at, drop-drop}
use Rattle.cells.specs.Runs.{same}
use Rattle.cells.specs.Spans.{all}
use Rattle.cells.proofs.Tests.{tested, both}
use Rattle.cells.proofs.Equality.{same_equal}
use Rattle.names.specs.Extra.{extra_names as listed}
use Rattle.structured.specs.Texts.{is_key, printable}
use Rattle.structured.specs.Reading.{last_integer}
use Rattle.signatures.specs.Components.{Message, good_message, all_components, all_printable, twice, missing}
use Rattle.signatures.specs.Base.{params, base_with, base, code_of}
use Rattle.signatures.specs.Fields.{input_value, signature_value, label_in, covered_in, time_in, key_id_in, good_input, good_signature}
use Rattle.signatures.specs.Signable.{Signable}
use Rattle.signatures.specs.InnerAnswers.{ShortMessage}
use Rattle.signatures.proofs.Readback.{rewritten}
use Rattle.carrier.specs.Asked.{Asked, long_from, message_fits, asked_fits, well_formed, well_named, asked_number}
use Rattle.carrier.specs.Sign.{sign_fits, input_of, signature_of}
use Rattle.carrier.specs.Verify.{told_number, first_refusal, agrees}
use Rattle.carrier.specs.InnerSteps.{asked_in}
use Rattle.carrier.specs.declared.asked.Asked as A

-- sizes, as far as the steps need them
pub record Sized (a : Asked) : Type 0 where
  pub message : ShortMessage a.message
  pub names : length a.names ≤ 1024
  pub label : length a.label ≤ 64
  pub key_id : length a.key_id ≤ 255
  pub key : length a.key ≤ 256

-- nothing is refused, and there is room
pub record MayBeSigned (a : Asked) (created : ℕ) (out : List ℕ) : Type 0 where
  pub sized : Sized a
  pub time : created ≤ last_integer
  pub room : 4096 ≤ length out
  pub asked : asked_number a ≡ 0

-- a number that is 0 where a test fails, or another number where it holds
module _ (t : Bool) (k n : ℕ) (some : k ≡ 0 → ⊥) where
  pub refused_not : cond t k n ≡ 0 → (t ≡ false) × (n ≡ 0)
  refused_not h = tested t (λ e. absurd (some (sym (rw e) ∙ h))) (λ e. (e, sym (rw e) ∙ h))

pub none_refused : (m n : ℕ) → first_refusal m n ≡ 0 → (m ≡ 0) × (n ≡ 0)
none_refused m n h =
    tested (eqb m 0) (λ e. (eqb-true m 0 e, sym (rw e) ∙ h))
    (λ e. tested (eqb n 0) (λ f. absurd (eqb-false m 0 e (sym (rw (e, f)) ∙ h)))
    (λ f. tested (ltb n m) (λ l. absurd (eqb-false n 0 f (sym (rw (e, f, l)) ∙ h))) (λ l. absurd (eqb-false m 0 e (sym (rw (e, f, l)) ∙ h)))))

-- nothing is refused of what is asked
pub record Granted (a : Asked) : Type 0 where
  pub formed : well_formed a ≡ true
  pub named : well_named a ≡ true
  pub once : twice (listed a.names) ≡ false
  pub has : missing a.message (listed a.names) ≡ false

module _ (a : Asked) where
  pub granted : asked_number a ≡ 0 → Granted a
  unfolding asked_number
  granted h =
      let first = refused_not (not (well_formed a)) 2 _ (λ e. omega arith) h in
      let second = refused_not (not (well_named a)) 3 _ (λ e. omega arith) first.1 in
      let third = refused_not (twice (listed a.names)) 4 _ (λ e. omega arith) second.1 in
      let fourth = refused_not (missing a.message (listed a.names)) 5 0 (λ e. omega arith) third.1 in
      record { formed = not-false (well_formed a) first.0; named = not-false (well_named a) second.0; once = third.0; has = fourth.0 }

  pub asked_most : asked_number a ≤ 5
  unfolding asked_number
  asked_most =
      tested (well_formed a) (λ f. tested (well_named a) (λ n. tested (twice (listed a.names)) (λ t. rw (f, n, t) (omega arith))
      (λ t. tested (missing a.message (listed a.names)) (λ m. rw (f, n, t, m) (omega arith)) (λ m. rw (f, n, t, m) (omega arith))))
      (λ n. rw (f, n) (omega arith))) (λ f. rw f (omega arith))

module _ {a : Asked} (g : Granted a) where
  pub components : all_components (listed a.names) ≡ true
  unfolding well_formed
  components = (both (all_components (listed a.names)) _ (both (good_message a.message) _ g.formed).1).0

  values : all_printable a.message (listed a.names) ≡ true
  unfolding well_formed
  values = (both (all_components (listed a.names)) _ (both (good_message a.message) _ g.formed).1).1

  pub labelled : is_key a.label ≡ true
  unfolding well_named
  labelled = (both (is_key a.label) _ g.named).0

  pub identified : all printable a.key_id ≡ true
  unfolding well_named
  identified = (both (is_key a.label) _ g.named).1

  pub signable : (created : ℕ) → created ≤ last_integer → Signable a.message a.names created a.key_id
  signable created h = record { components = components; values = values; time = h; identified = identified }

-- nothing is refused of the two values but perhaps the list or the code
pub record Fielded (a : Asked) (input signature : List ℕ) : Type 0 where
  pub formed : good_input input ≡ true
  pub label : a.label ≡ label_in input
  pub key_id : a.key_id ≡ key_id_in input

pub fielded : (a : Asked) (input signature : List ℕ) → told_number a input signature ≡ 0 → Fielded a input signature
unfolding told_number
fielded a input signature h =
    let first = refused_not (not (good_input input && good_signature signature)) 2 _ (λ e. omega arith) h in
    let second = refused_not (not (same a.label (label_in input) && (same a.label (label_in signature) && same a.key_id (key_id_in input)))) 3 0 (λ e. omega arith) first.1 in
    let formed = both (good_input input) _ (not-false _ first.0) in
    let label = both (same a.label (label_in input)) _ (not-false _ second.0) in
    let rest = both (same a.label (label_in signature)) _ label.1 in
    record {
      formed = formed.0;
      label = same_equal _ _ label.0;
      key_id = same_equal _ _ rest.1;
    }

module _ {a : Asked} {input signature : List ℕ} (f : Fielded a input signature) where
  -- the value, where its list is the one asked for
  pub input_told : a.names ≡ covered_in input → input ≡ input_of a (time_in input)
  unfolding input_of
  input_told e =
      rewritten input f.formed
      ∙ ap (λ (l : List ℕ). input_value l (covered_in input) (time_in input) (key_id_in input)) (sym f.label)
      ∙ ap₂ (λ (ns k : List ℕ). input_value a.label ns (time_in input) k) (sym e) (sym f.key_id)

  params_told : a.names ≡ covered_in input → drop (length a.label + 1) input ≡ params a.names (time_in input) a.key_id
  unfolding input_of input_value
  params_told e =
      ap (drop (length a.label + 1)) (input_told e) ∙ sym (drop-drop 1 (length a.label) _)
      ∙ ap (drop 1) (drop_at a.label (61 ∷ params a.names (time_in input) a.key_id) (length a.label) refl)

  -- so its parameters are those of the base
  pub agreed : agrees a input signature
      ≡ (same a.names (covered_in input)
      && same (signature_value a.label (code_of a.key (base_with a.message a.names (drop (length a.label + 1) input)))) signature)
  unfolding agrees signature_of base
  agreed =
      tested (same a.names (covered_in input))
      (λ e. ap (λ (ps : List ℕ). same a.names (covered_in input) && same (signature_value a.label (code_of a.key (base_with a.message a.names ps))) signature)
      (sym (params_told (same_equal _ _ e))))
      (λ e. rw e refl)

-- sizes
most : (low high : ℕ) (run : List ℕ) → long_from low high run ≡ true → length run ≤ high
most low high run t = leb-true (length run) high (both (leb low (length run)) _ t).1

pub short_message : (m : Message) → message_fits m ≡ true → ShortMessage m
unfolding message_fits
short_message m h =
    let method = both (long_from 1 16 m.method) _ h in
    let authority = both (long_from 1 255 m.authority) _ method.1 in
    let path = both (long_from 1 2048 m.path) _ authority.1 in
    record {
      method = omega (arith, most 1 16 m.method method.0);
      authority = omega (arith, most 1 255 m.authority authority.0);
      path = omega (arith, most 1 2048 m.path path.0);
      lines = leb-true _ _ path.1;
    }

sized : (a : Asked) → asked_fits a ≡ true → Sized a
unfolding asked_fits
sized a h =
    let message = both (message_fits a.message) _ h in
    let names = both (leb (length a.names) 1024) _ message.1 in
    let label = both (long_from 1 64 a.label) _ names.1 in
    let key_id = both (long_from 1 255 a.key_id) _ label.1 in
    record {
      message = short_message a.message message.0;
      names = leb-true _ _ names.0;
      label = most 1 64 a.label label.0;
      key_id = most 1 255 a.key_id key_id.0;
      key = most 1 256 a.key key_id.1;
    }

pub sized_of : (a : A.Asked) → Sized (asked_in a)
sized_of a = sized (asked_in a) a.fits

pub sign_sized : (a : Asked) (created : ℕ) (out : List ℕ) → sign_fits a created out ≡ true → Sized a × (created ≤ last_integer) × (4096 ≤ length out)
unfolding sign_fits
sign_sized a created out h =
    let asked = both (asked_fits a) _ h in
    let time = both (leb created last_integer) _ asked.1 in
    (sized a asked.0, leb-true _ _ time.0, leb-true _ _ time.1)

-- Laws of the two lines that are written: how long they are, and where the parameters stand in them.
-- Assumes nothing.
use mathlib.Core.Path.{◌≡◌, ap, ◌∙◌}
use mathlib.Core.List.{List, [], ◌∷◌, ◌++◌, append_assoc}
use Prim.Native.Nat.{ℕ, ◌+◌, ◌-◌, ◌≤◌}
use native.Mathlib.Omega.{arith}
use lib.ListN.{length, take, drop, length-append}
use lib.Seq.{length-take-le, take_at, drop_at}
use Rattle.cells.specs.Text.{codes}
use Rattle.cells.specs.Runs.{spliced, fronted, cut}
use Rattle.cells.specs.InnerLaid.{Laid}
use Rattle.cells.proofs.Runs.{fronted_whole}
use Rattle.cells.proofs.Digits.{decimal_length}
use Rattle.names.specs.Extra.{extra_names as listed}
use Rattle.hashes.specs.declared.Hash.TheVariants.{Sha256}
use Rattle.hmac.proofs.Output.{length_hmac}
use Rattle.base_64.specs.Encoding.{encoded}
use Rattle.base_64.proofs.Encoded.{length_encoded}
use Rattle.structured.proofs.Texts.{list_size, escaped_size, string_length}
use Rattle.structured.specs.Reading.{last_integer}
use Rattle.signatures.specs.Base.{params, base_with, base, code_of}
use Rattle.signatures.specs.Fields.{input_value, signature_text, signature_value, field_lines}
use Rattle.signatures.proofs.Names.{components_plain}
use Rattle.carrier.specs.Asked.{Asked, asked_number}
use Rattle.carrier.specs.declared.asked.Asked as A
use Rattle.carrier.specs.Sign.{input_of, signature_of, sign_text}
use Rattle.carrier.specs.InnerSteps.{asked_in}
use Rattle.carrier.proofs.Parts.{MayBeSigned, granted, components, sized_of}

-- a digest's base64 fills 44 bytes
length_digest : (digest : List ℕ) → length digest ≡ 32 → length (encoded digest) ≡ 44
length_digest digest h = length_encoded digest ∙ rw h

pub digest_text : (digest room : List ℕ) {left : List ℕ} → length digest ≡ 32 → length room ≡ 44 → left ≡ fronted (encoded digest) room → left ≡ encoded digest
digest_text digest room h r e = e ∙ fronted_whole (encoded digest) room (omega (arith, length_digest digest h))

pub signature_length : (label digest : List ℕ) → length digest ≡ 32 → length (signature_value label digest) ≡ length label + 47
unfolding signature_value signature_text codes
signature_length label digest h = simp length-append (omega (arith, length_digest digest h))

-- a label and a code fit in 128 bytes
pub signature_room : (label code : List ℕ) → length code ≡ 64 → length label ≤ 64 → length (signature_value label (take 32 code)) ≤ 128
signature_room label code full h = omega (arith, signature_length label (take 32 code) (length-take-le 32 code (omega (arith, full))), h)

code_length : (key text : List ℕ) → length (code_of key text) ≡ 32
unfolding code_of
code_length key text = length_hmac Sha256 key text

-- how long the two lines are
module _ {a : Asked} {created : ℕ} {out : List ℕ} (w : MayBeSigned a created out) where
  pub params_short : length (params a.names created a.key_id) ≤ 3619
  unfolding params codes
  params_short =
      let plain = components_plain (listed a.names) (components (granted a w.asked)) in
      let dated = decimal_length 14 created (omega (arith, w.time)) in
      simp length-append
      (omega (arith, list_size a.names plain, string_length a.key_id, escaped_size a.key_id, w.sized.names, w.sized.key_id))

  pub text_short : length (sign_text a created) ≤ 4096
  unfolding sign_text field_lines input_of input_value signature_of codes
  text_short =
      let signature = signature_length a.label (code_of a.key (base a.message a.names created a.key_id)) (code_length a.key _) in
      simp length-append (omega (arith, signature, params_short, w.sized.label))

pub text_size : (a : Asked) (created : ℕ) → length (sign_text a created) ≡ length (input_value a.label a.names created a.key_id) + length a.label + 79
unfolding sign_text field_lines input_of signature_of codes
text_size a created =
    let signature = signature_length a.label (code_of a.key (base a.message a.names created a.key_id)) (code_length a.key _) in
    simp length-append (omega (arith, signature))

-- nothing is refused of what is lent
pub may_be : (r : A.Asked) (created : ℕ) (out : List ℕ) → (created ≤ last_integer) × (4096 ≤ length out) × (asked_number (asked_in r) ≡ 0)
    → MayBeSigned (asked_in r) created out
may_be r created out h = record { sized = sized_of r; time = h.0; room = h.1; asked = h.2 }

-- what stands past a label and = in a run where they are laid
pub laid_past : (out label text : List ℕ) {left : List ℕ} {at end : ℕ} → at ≤ length out → Laid out left at end (label ++ (61 ∷ text))
    → (at + length label + 1 ≤ end) × (cut left (at + length label + 1) end ≡ text)
unfolding spliced
laid_past out label text {left} {at} {end} h l =
    let from = at + length label + 1 in
    let front = take at out ++ (label ++ (61 ∷ [])) in
    let rest = drop (length (label ++ (61 ∷ text))) (drop at out) in
    let size = length-append label (61 ∷ text) in
    let parts : left ≡ front ++ (text ++ rest) = l.is ∙ simp append_assoc in
    let seam : length front ≡ from = simp length-append (omega (arith, length-take-le at out h)) in (
      omega (arith, l.ends, size),
      ap (λ (run : List ℕ). cut run from end) parts
          ∙ ap (take (end - from)) (drop_at front (text ++ rest) from seam)
          ∙ take_at text rest (end - from) (omega (arith, l.ends, size)),
    )

-- so the code that is made of the parameters there is that of the base
pub coded : (a : Asked) (created : ℕ) (out code : List ℕ) {left : List ℕ} {at end : ℕ} → at ≤ length out → Laid out left at end (input_of a created)
    → take 32 code ≡ code_of a.key (base_with a.message a.names (cut left (at + length a.label + 1) end))
    → signature_value a.label (take 32 code) ≡ signature_of a created
unfolding input_of input_value signature_of base
coded a created out code h l e =
    ap (signature_value a.label) (e ∙ ap (λ (ps : List ℕ). code_of a.key (base_with a.message a.names ps)) (laid_past out a.label _ h l).1)

-- What is laid into a buffer: the bytes of a text, and the groups of a run.
-- Assumes nothing.
use mathlib.Core.Path.{◌≡◌, refl, sym, ap, ◌∙◌}
use mathlib.Core.List.{List, [], ◌∷◌}
use Prim.Native.Nat.{ℕ, zero, suc, ◌+◌, ◌/◌, ◌%◌, ◌<◌}
use native.Mathlib.Nat.{not-suc-le-zero}
use native.Mathlib.Omega.{arith}
use lib.Dec.{leb, leb-suc-suc}
use lib.ListN.{length, get_or}
use borrow.Author.Tests.{lt-ltb}
use Rattle.cells.specs.Runs.{Bytes, fronted}
use Rattle.std.specs.Prelude.{Option, Some, None, Ok, Err}
use Rattle.base_64.specs.declared.Undecoded.TheVariants.{Bad, TooLong}
use Rattle.base_64.specs.Alphabet.{character}
use Rattle.base_64.specs.Encoding.{encoded}
use Rattle.base_64.specs.Decoding.{Decoding, nothing, bytes, decoded}
use Rattle.base_64.specs.InnerAnswers.{size_of, measured, Outcome, outcome, pick_outcome, into, decoded_into}
use Rattle.base_64.specs.InnerSteps.{content, byte_of, character_of, byte_at}
use Rattle.base_64.proofs.Alphabet.{six}
use Rattle.base_64.proofs.Encoded.{length_encoded}
use Rattle.base_64.proofs.Exactly.{known}
use Rattle.base_64.proofs.Groups.{in_two, in_bytes}

-- the bytes of a run, from its text
pub byte_encoded : (bs : List ℕ) (i : ℕ) → Bytes bs → i < length bs → byte_of (encoded bs) i ≡ get_or bs i 0
unfolding encoded
byte_encoded [] i h l = absurd (not-suc-le-zero l)
byte_encoded (a ∷ []) zero h l = simp six (in_two a 0 0 (h 0) (h 1) (h 2)).0
byte_encoded (a ∷ []) (suc i) h l = absurd (omega arith)
byte_encoded (a ∷ b ∷ []) zero h l = simp six (in_two a b 0 (h 0) (h 1) (h 2)).0
byte_encoded (a ∷ b ∷ []) (suc zero) h l = simp six (in_two a b 0 (h 0) (h 1) (h 2)).1
byte_encoded (a ∷ b ∷ []) (suc (suc i)) h l = absurd (omega arith)
byte_encoded (a ∷ b ∷ c ∷ rest) zero h l = simp six (in_two a b c (h 0) (h 1) (h 2)).0
byte_encoded (a ∷ b ∷ c ∷ rest) (suc zero) h l = simp six (in_two a b c (h 0) (h 1) (h 2)).1
byte_encoded (a ∷ b ∷ c ∷ rest) (suc (suc zero)) h l = simp six (in_two a b c (h 0) (h 1) (h 2)).2
byte_encoded (a ∷ b ∷ c ∷ rest) (suc (suc (suc i))) h l =
    let e : suc (suc (suc i)) + suc (suc (suc i)) / 3 ≡ suc (suc (suc (suc (i + i / 3)))) = omega arith in
    let f : suc (suc (suc (suc (i + i / 3)))) + 1 ≡ suc (suc (suc (suc (i + i / 3 + 1)))) = omega arith in
    let g : suc (suc (suc i)) % 3 ≡ i % 3 = omega arith in
    rw (e, f, g) (byte_encoded rest i (λ k. h (suc (suc (suc k)))) (omega arith))

-- the same of a text that encodes n bytes, which is long enough to be read there
pub byte_known : (text : List ℕ) (n i : ℕ) → measured text ≡ Some n → i < n
    → (byte_of text i ≡ get_or (content (decoded text)) i 0) × (i + i / 3 + 1 < length text)
byte_known text n i e h =
    let k = known text n e in (
      ap (λ (l : List ℕ). byte_of l i) k.0 ∙ byte_encoded (content (decoded text)) i k.1 (omega (arith, k.2)),
      omega (arith, ap length k.0, length_encoded (content (decoded text)), k.2),
    )

-- the characters of a text, from its run
pub character_encoded : (bs : List ℕ) (i : ℕ) → Bytes bs → i < length (encoded bs) → character_of bs i ≡ get_or (encoded bs) i 0
unfolding encoded
character_encoded [] i h l = absurd (not-suc-le-zero l)
character_encoded (a ∷ []) zero h l = ap character (in_bytes a 0 0 0 (h 1) (h 1) (h 1)).0
character_encoded (a ∷ []) (suc zero) h l = ap character (in_bytes a 0 0 0 (h 1) (h 1) (h 1)).1
character_encoded (a ∷ []) (suc (suc zero)) h l = refl
character_encoded (a ∷ []) (suc (suc (suc zero))) h l = refl
character_encoded (a ∷ []) (suc (suc (suc (suc i)))) h l = absurd (omega arith)
character_encoded (a ∷ b ∷ []) zero h l = ap character (in_bytes a b 0 0 (h 1) (h 2) (h 2)).0
character_encoded (a ∷ b ∷ []) (suc zero) h l = ap character (in_bytes a b 0 0 (h 1) (h 2) (h 2)).1
character_encoded (a ∷ b ∷ []) (suc (suc zero)) h l = ap character (in_bytes a b 0 0 (h 1) (h 2) (h 2)).2
character_encoded (a ∷ b ∷ []) (suc (suc (suc zero))) h l = refl
character_encoded (a ∷ b ∷ []) (suc (suc (suc (suc i)))) h l = absurd (omega arith)
character_encoded (a ∷ b ∷ c ∷ rest) zero h l =
    rw (lt-ltb 0 (length (a ∷ b ∷ c ∷ rest)) (omega arith)) (ap character (in_bytes a b c 0 (h 1) (h 2) (omega arith)).0)
character_encoded (a ∷ b ∷ c ∷ rest) (suc zero) h l =
    rw (lt-ltb 0 (length (a ∷ b ∷ c ∷ rest)) (omega arith)) (ap character (in_bytes a b c 0 (h 1) (h 2) (omega arith)).1)
character_encoded (a ∷ b ∷ c ∷ rest) (suc (suc zero)) h l =
    rw (lt-ltb 1 (length (a ∷ b ∷ c ∷ rest)) (omega arith)) (ap character (in_bytes a b c 0 (h 1) (h 2) (omega arith)).2)
character_encoded (a ∷ b ∷ c ∷ rest) (suc (suc (suc zero))) h l =
    rw (lt-ltb 2 (length (a ∷ b ∷ c ∷ rest)) (omega arith)) (ap character (in_bytes a b c _ (h 1) (h 2) (h 3)).3)
character_encoded (a ∷ b ∷ c ∷ rest) (suc (suc (suc (suc i)))) h l =
    let g : suc (suc (suc (suc i))) % 4 ≡ i % 4 = omega arith in
    let e : byte_at (suc (suc (suc (suc i)))) ≡ suc (suc (suc (byte_at i))) = omega arith in
    let f : suc (suc (suc (byte_at i))) + 1 ≡ suc (suc (suc (byte_at i + 1))) = omega arith in
    rw (e, f, g, leb-suc-suc, leb-suc-suc, leb-suc-suc) (character_encoded rest i (λ k. h (suc (suc (suc k)))) (omega arith))

-- what decoding answers, by the size
abbrev pub answer : Option ℕ → List ℕ → List ℕ → Outcome
answer None bs out = outcome (Err Bad) out
answer (Some n) bs out = pick_outcome (leb n (length out)) (outcome (Ok n) (fronted bs out)) (outcome (Err TooLong) out)

by_size : (d : Decoding) (out : List ℕ) → into d out ≡ answer (size_of d) (content d) out
by_size nothing out = refl
by_size (bytes bs) out = refl

pub answered : (text out : List ℕ) (m : Option ℕ) → m ≡ measured text → answer m (content (decoded text)) out ≡ decoded_into text out
unfolding measured decoded_into
answered text out m e = ap (λ (s : Option ℕ). answer s (content (decoded text)) out) e ∙ sym (by_size (decoded text) out)

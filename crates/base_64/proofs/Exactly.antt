-- A text decodes to a run of bytes exactly if it is that run's encoding.
-- Assumes nothing.
use mathlib.Core.Path.{◌≡◌, refl, ap, subst, ◌∙◌}
use mathlib.Core.Bool.{Bool, true, false, false≢true}
use mathlib.Core.Logic.{◌↔◌}
use mathlib.Core.List.{List, [], ◌∷◌, ◌++◌}
use Prim.Native.Nat.{ℕ, zero, suc, ◌/◌, ◌%◌, ◌<◌}
use native.Mathlib.Omega.{arith}
use lib.Dec.{eqb}
use lib.ListN.{length}
use borrow.Author.Tests.{ltb-true, eqb-true}
use Rattle.cells.specs.Runs.{Bytes}
use Rattle.std.specs.Prelude.{Some}
use Rattle.base_64.specs.Alphabet.{character, six_bits, pad}
use Rattle.base_64.specs.Encoding.{group, first, second, third, fourth, encoded}
use Rattle.base_64.specs.Decoding.{Decoding, nothing, bytes, pick, both, before, last, coded, joined, full, three, two, one, ending, decoded}
use Rattle.base_64.specs.InnerAnswers.{size_of, measured}
use Rattle.base_64.specs.InnerSteps.{content}
use Rattle.base_64.proofs.Alphabet.{spelled, six, six_coded, six_not_pad, pad_uncoded}
use Rattle.base_64.proofs.Groups.{three_back, two_back, one_back, whole_one, whole_two, whole_three}

-- that a text is the encoding of what it decodes to, if that is anything
abbrev Right : List ℕ → Decoding → Type 0
Right text nothing = Unit {0}
Right text (bytes bs) = (text ≡ encoded bs) × Bytes bs

either : (text : List ℕ) (t : Bool) (d e : Decoding) → (t ≡ true → Right text d) → (t ≡ false → Right text e) → Right text (pick t d e)
either text true d e f g = f refl
either text false d e f g = g refl

coded_both : (c : ℕ) (s t : Bool) → coded c ≡ s → both s t ≡ true → (six_bits c < 64) × (t ≡ true)
unfolding coded
coded_both c true t e h = (ltb-true (six_bits c) 64 e, h)
coded_both c false t e h = absurd (false≢true h)

none : Bytes []
none i = omega arith

byte : (n : ℕ) (xs : List ℕ) → Bytes xs → Bytes (n % 256 ∷ xs)
byte n xs h zero = omega arith
byte n xs h (suc i) = h i

-- the characters of 24 bits that values were put in
letters : (p q y z n : ℕ) → n ≡ joined (six_bits p) (six_bits q) y z → six_bits p < 64 → six_bits q < 64 → y < 64 → z < 64
    → (first n ≡ p) × (second n ≡ q) × (third n ≡ character y) × (fourth n ≡ character z)
letters p q y z n e hp hq hy hz =
    (spelled p _ hp (omega arith), spelled q _ hq (omega arith), ap character (omega arith), ap character (omega arith))

right_one : (p q : ℕ) → Right (p ∷ q ∷ pad ∷ pad ∷ []) (one p q)
unfolding one encoded
right_one p q =
    either _ (both (coded p) (both (coded q) (eqb (six_bits q % 16) 0))) _ _
    (λ h.
    let (hp, h') = coded_both p _ _ refl h in
    let (hq, e) = coded_both q _ _ refl h' in
    let o : 0 < 64 = omega arith in
    let l = letters p q 0 0 _ (whole_one (six_bits p) (six_bits q) hp hq (eqb-true _ 0 e)) hp hq o o in
    (cc, byte _ [] none))
    (λ _. tt)

right_two : (p q r : ℕ) → Right (p ∷ q ∷ r ∷ pad ∷ []) (two p q r)
unfolding two encoded
right_two p q r =
    either _ (both (coded p) (both (coded q) (both (coded r) (eqb (six_bits r % 4) 0)))) _ _
    (λ h.
    let (hp, h') = coded_both p _ _ refl h in
    let (hq, h'') = coded_both q _ _ refl h' in
    let (hr, e) = coded_both r _ _ refl h'' in
    let n = joined (six_bits p) (six_bits q) (six_bits r) 0 in
    let l = letters p q (six_bits r) 0 _ (whole_two (six_bits p) (six_bits q) (six_bits r) hp hq hr (eqb-true _ 0 e)) hp hq hr (omega arith) in
    let er = spelled r _ hr refl in
    (cc, byte _ (n / 256 % 256 ∷ []) (byte _ [] none)))
    (λ _. tt)

right_last : (p q r s : ℕ) (rest : List ℕ) → Right (p ∷ q ∷ r ∷ s ∷ rest) (last (ending p q r s) rest)
unfolding ending
right_last p q r s (c ∷ cs) = tt
right_last p q r s [] =
    either _ (eqb s pad) _ _
    (λ es. rw (eqb-true s pad es) (either _ (eqb r pad) _ _ (λ er. rw (eqb-true r pad er) (right_one p q)) (λ _. right_two p q r)))
    (λ _. tt)

right_more : (p q r s : ℕ) (rest : List ℕ) (d : Decoding) → full p q r s ≡ true → Right rest d
    → Right (p ∷ q ∷ r ∷ s ∷ rest) (before (three (joined (six_bits p) (six_bits q) (six_bits r) (six_bits s))) d)
unfolding full encoded coded
right_more p q r s rest nothing h k = tt
right_more p q r s rest (bytes bs) h k =
    let (hp, h') = coded_both p _ _ refl h in
    let (hq, h'') = coded_both q _ _ refl h' in
    let (hr, h''') = coded_both r _ _ refl h'' in
    let hs = ltb-true _ 64 h''' in
    let n = joined (six_bits p) (six_bits q) (six_bits r) (six_bits s) in
    let l = letters p q (six_bits r) (six_bits s) _ (whole_three (six_bits p) (six_bits q) (six_bits r) (six_bits s) hp hq hr hs) hp hq hr hs in
    let er = spelled r _ hr refl in
    let es = spelled s _ hs refl in
    (cc, byte _ (n / 256 % 256 ∷ n % 256 ∷ bs) (byte _ (n % 256 ∷ bs) (byte _ bs k.1)))

right : (text : List ℕ) → Right text (decoded text)
unfolding decoded encoded
right [] = (refl, none)
right (p ∷ []) = tt
right (p ∷ q ∷ []) = tt
right (p ∷ q ∷ r ∷ []) = tt
right (p ∷ q ∷ r ∷ s ∷ rest) =
    either _ (full p q r s) _ _ (λ h. right_more p q r s rest (decoded rest) h (right rest)) (λ _. right_last p q r s rest)

-- a run's encoding decodes to it
back : (bs : List ℕ) → Bytes bs → decoded (encoded bs) ≡ bytes bs
unfolding encoded decoded full ending one two
back [] h = refl
back (a ∷ []) h =
    let ha = h 0 in
    let spare : group a 0 0 / 4096 % 64 % 16 ≡ 0 = omega arith in
    simp (six_coded, pad_uncoded, six, spare) (ap bytes (one_back a ha))
back (a ∷ b ∷ []) h =
    let hb = h 1 in
    let spare : group a b 0 / 64 % 64 % 4 ≡ 0 = omega arith in
    simp (six_coded, pad_uncoded, six, six_not_pad, spare) (ap bytes (two_back a b (h 0) hb))
back (a ∷ b ∷ c ∷ rest) h =
    simp (six_coded, six, back rest (λ i. h (suc (suc (suc i))))) (ap (λ (l : List ℕ). bytes (l ++ rest)) (three_back a b c (h 0) (h 1) (h 2)))

-- THE THEOREM: of a run of bytes and any text, the text decodes to the run exactly if it is the run's encoding
pub decoded_exactly : (text bs : List ℕ) → Bytes bs → (decoded text ≡ bytes bs) ↔ (text ≡ encoded bs)
decoded_exactly text bs h = (λ e. (subst (Right text) e (right text)).0, λ e. ap decoded e ∙ back bs h)

-- what a text decodes to are bytes
pub decoded_bytes : (text bs : List ℕ) → decoded text ≡ bytes bs → Bytes bs
decoded_bytes text bs e = (subst (Right text) e (right text)).1

sized : (text : List ℕ) (d : Decoding) (n : ℕ) → Right text d → size_of d ≡ Some n
    → (text ≡ encoded (content d)) × Bytes (content d) × (length (content d) ≡ n)
sized text nothing n r e = let z : ◌≡◌ {A = ℕ} 0 1 = cc in absurd (omega arith)
sized text (bytes bs) n r e = (r.0, r.1, cc)

-- the run of a text that encodes n bytes
pub known : (text : List ℕ) (n : ℕ) → measured text ≡ Some n
    → (text ≡ encoded (content (decoded text))) × Bytes (content (decoded text)) × (length (content (decoded text)) ≡ n)
unfolding measured
known text n e = sized text (decoded text) n (right text) e

-- every run of bytes has one text
pub encoded_injective : (a b : List ℕ) → Bytes a → Bytes b → encoded a ≡ encoded b → a ≡ b
encoded_injective a b ha hb e =
    let left : decoded (encoded a) ≡ bytes a = back a ha in
    let right : decoded (encoded b) ≡ bytes b = back b hb in
    cc

-- What measuring or decoding a text says of the rules that it keeps.
-- Assumes nothing.
use mathlib.Core.Path.{◌≡◌, refl, sym, ap, ap₂, ◌∙◌}
use mathlib.Core.Logic.{◌⊎◌, inl, inr}
use mathlib.Core.Bool.{Bool, true, false, ◌&&◌, ◌||◌, and-false}
use mathlib.Core.List.{List, [], ◌∷◌}
use Prim.Native.Nat.{ℕ, ◌-◌, ◌<◌, ◌≤◌}
use native.Mathlib.Omega.{arith}
use lib.Dec.{eqb, leb}
use lib.ListN.{length, get_or, take, drop}
use Rattle.std.specs.Prelude.{replicate}
use Rattle.std.proofs.lemmas.List.{length-replicate}
use lib.Seq.{take_at, take_all}
use borrow.Author.Tests.{eqb-true, ne_eqb, leb-true, leb-false, le-leb, lt-leb}
use Rattle.cells.specs.Runs.{fronted}
use Rattle.cells.specs.Numbers
use Rattle.cells.proofs.Runs.{length_fronted, fronted_whole}
use Rattle.std.specs.Prelude.{Option, Some, None, MatchOption, Result, Ok, Err, unwrap_or}
use Rattle.std.specs.Result.{result_unwrap_or}
use Rattle.base_64.specs.declared.Undecoded.{Undecoded}
use Rattle.base_64.specs.declared.Undecoded.TheVariants.{Bad, TooLong}
use Rattle.base_64.specs.Decoding.{Decoding, nothing, bytes, decoded}
use Rattle.base_64.specs.InnerAnswers.{size_of, measured, Outcome, outcome, pick_outcome, into, decoded_into}
use Rattle.armor.specs.Numerals.{is_numeral, is_number, is_mask, mask_of}
use Rattle.armor.specs.Keys.{Rule, number, mask, sized, either, obeys}
use Rattle.armor.specs.Value.{decoded_obeys, text_obeys, held, told}
use Rattle.cells.proofs.Tests.{tested}
use Rattle.armor.proofs.Numerals.{first, second, numeral_parts, mask_parts}
use Rattle.armor.proofs.Value.{obeyed_parts}

-- by its size
measured_by : (rule : Rule) (d : Decoding) → size_of d ≡ None → decoded_obeys rule d ≡ false
measured_by rule nothing e = refl
measured_by rule (bytes bs) e = absurd (let z : ◌≡◌ {A = ℕ} 0 1 = cc in omega arith)

measured_bad : (rule : Rule) (text : List ℕ) → measured text ≡ None → text_obeys rule text ≡ false
unfolding measured text_obeys
measured_bad rule text e = measured_by rule (decoded text) e

size_by : (rule : Rule) (f : ℕ → Bool) → ((bs : List ℕ) → obeys rule bs ≡ f (length bs)) → (d : Decoding) (n : ℕ) → size_of d ≡ Some n
    → decoded_obeys rule d ≡ (leb 1 n && f n)
size_by rule f h nothing n e = absurd (let z : ◌≡◌ {A = ℕ} 0 1 = cc in omega arith)
size_by rule f h (bytes bs) n e = let size : length bs ≡ n = cc in rw (h bs, size)

measured_size : (rule : Rule) (f : ℕ → Bool) → ((bs : List ℕ) → obeys rule bs ≡ f (length bs)) → (text : List ℕ) (n : ℕ)
    → measured text ≡ Some n → text_obeys rule text ≡ (leb 1 n && f n)
unfolding measured text_obeys
measured_size rule f h text n e = size_by rule f h (decoded text) n e

-- a test of the size, which rules that a text that encodes nothing fails
pub measured_test : (rule : Rule) (f g : ℕ → Bool) → ((bs : List ℕ) → obeys rule bs ≡ f (length bs)) → ((n : ℕ) → (leb 1 n && f n) ≡ g n)
    → (P : ℕ → Type 0) (text : List ℕ) (o : Option ℕ) (r : Bool) → o ≡ measured text → MatchOption o (r ≡ false) P → ((n : ℕ) → P n → r ≡ g n)
    → r ≡ text_obeys rule text
measured_test rule f g h k P text None r e m is = m ∙ sym (measured_bad rule text (sym e))
measured_test rule f g h k P text (Some n) r e m is = is n m ∙ sym (measured_size rule f h text n (sym e) ∙ k n)

-- a text that was decoded into a buffer
pub record Filled (text out left : List ℕ) (n : ℕ) : Type 0 where
  pub run : List ℕ
  pub is : decoded text ≡ bytes run
  pub size : n ≡ length run
  pub fits : length run ≤ length out
  pub front : left ≡ fronted run out

filled_by : (text out left : List ℕ) (n : ℕ) (d : Decoding) → decoded text ≡ d → outcome (Ok n) left ≡ into d out → Filled text out left n
filled_by text out left n nothing p e =
    let answer : ◌≡◌ {A = Result ℕ Undecoded} (Ok n) (Err Bad) = ap (λ (o : Outcome). o.answer) e in
    absurd (let z : ◌≡◌ {A = ℕ} 0 1 = cc in omega arith)
filled_by text out left n (bytes bs) p e =
    tested (leb (length bs) (length out))
    (λ t. let same = rw t at e in
    let answer : ◌≡◌ {A = Result ℕ Undecoded} (Ok n) (Ok (length bs)) = ap (λ (o : Outcome). o.answer) same in
    record { run = bs; is = p; size = cc; fits = leb-true (length bs) (length out) t; front = ap (λ (o : Outcome). o.out) same })
    (λ t. let answer : ◌≡◌ {A = Result ℕ Undecoded} (Ok n) (Err TooLong) = ap (λ (o : Outcome). o.answer) (rw t at e) in
    absurd (let z : ◌≡◌ {A = ℕ} 0 1 = cc in omega arith))

pub filled : (text out left : List ℕ) (n : ℕ) (r : Result ℕ Undecoded) → r ≡ Ok n → outcome r left ≡ decoded_into text out → Filled text out left n
unfolding decoded_into
filled text out left n r p e =
    filled_by text out left n (decoded text) refl (ap (λ (d : Result ℕ Undecoded). outcome d left) (sym p) ∙ e)

-- a text whose bytes fit is decoded
decoded_fits : (text out left bs : List ℕ) (r : Result ℕ Undecoded) → outcome r left ≡ decoded_into text out → decoded text ≡ bytes bs → length bs ≤ length out
    → (r ≡ Ok (length bs)) × (left ≡ fronted bs out)
unfolding decoded_into
decoded_fits text out left bs r e d few =
    let whole : outcome r left ≡ outcome (Ok (length bs)) (fronted bs out) =
    e
    ∙ ap (λ (x : Decoding). into x out) d
    ∙ ap (λ (t : Bool). pick_outcome t (outcome (Ok (length bs)) (fronted bs out)) (outcome (Err TooLong) out)) (le-leb (length bs) (length out) few)
    in
    (ap (λ (o : Outcome). o.answer) whole, ap (λ (o : Outcome). o.out) whole)

-- what a text encodes, if it fits, and nothing of a text that encodes nothing
content_by : (out left : List ℕ) (d : Decoding) (r : Result ℕ Undecoded) → outcome r left ≡ into d out → length (held d) ≤ length out
    → (result_unwrap_or r 0 ≡ length (held d)) × (left ≡ fronted (held d) out)
unfolding fronted
content_by out left nothing r e few = (
  ap (λ (o : Outcome). result_unwrap_or o.answer 0) e,
  ap (λ (o : Outcome). o.out) e,
)
content_by out left (bytes bs) r e few =
    let whole : outcome r left ≡ outcome (Ok (length bs)) (fronted bs out) =
    e ∙ ap (λ (t : Bool). pick_outcome t (outcome (Ok (length bs)) (fronted bs out)) (outcome (Err TooLong) out)) (le-leb (length bs) (length out) few)
    in
    (ap (λ (o : Outcome). result_unwrap_or o.answer 0) whole, ap (λ (o : Outcome). o.out) whole)

pub content_is : (text out left : List ℕ) (r : Result ℕ Undecoded) → outcome r left ≡ decoded_into text out → length (told text) ≤ length out
    → (result_unwrap_or r 0 ≡ length (told text)) × (left ≡ fronted (told text) out)
unfolding decoded_into
content_is text out left r e few = content_by out left (decoded text) r e few

size_of_by : (d : Decoding) → unwrap_or (size_of d) 0 ≡ length (held d)
size_of_by nothing = refl
size_of_by (bytes bs) = refl

pub size_is : (text : List ℕ) → unwrap_or (measured text) 0 ≡ length (told text)
unfolding measured
size_is text = size_of_by (decoded text)

-- a text that was not decoded does not keep a rule by which its bytes would fit the buffer
pub unfilled : (rule : Rule) (text out left : List ℕ) (r : Result ℕ Undecoded) → ((b : List ℕ) → obeys rule b ≡ true → length b ≤ length out)
    → ((n : ℕ) → r ≡ Ok n → ⊥) → outcome r left ≡ decoded_into text out → text_obeys rule text ≡ false
unfolding text_obeys
unfilled rule text out left r room not e =
    let bs = held (decoded text) in
    tested (text_obeys rule text) (λ t. let d = obeyed_parts rule (decoded text) t in
    absurd (not (length bs) (decoded_fits text out left bs r e d.0 (room bs d.2)).0)) (λ t. t)

-- how many bytes a rule allows
pub number_room : (b : List ℕ) → obeys number b ≡ true → length b ≤ 4
unfolding obeys is_number
number_room b e = (numeral_parts 4 b e).1

pub mask_room : (b : List ℕ) → obeys mask b ≡ true → (1 ≤ length b) × (length b ≤ 9)
unfolding obeys is_mask
mask_room [] e = absurd (let z : ◌≡◌ {A = ℕ} 0 1 = cc in omega arith)
mask_room (n ∷ bs) e = (omega arith, omega (arith, (numeral_parts 8 bs (mask_parts n bs e).1).1))

pub sized_room : (low high : ℕ) (b : List ℕ) → obeys (sized low high) b ≡ true → (low ≤ length b) × (length b ≤ high)
unfolding obeys
sized_room low high b e = search (first, second, leb-true)

pub either_room : (short long : ℕ) (b : List ℕ) → obeys (either short long) b ≡ true → (length b ≡ short) ⊎ (length b ≡ long)
unfolding obeys
either_room short long b e =
    tested (eqb (length b) short) (λ t. inl (eqb-true (length b) short t)) (λ t. inr (eqb-true (length b) long (rw t at e)))

-- bytes at the front of a buffer
pub front_taken : (run out : List ℕ) (n : ℕ) {left : List ℕ} → left ≡ fronted run out → n ≡ length run → take n left ≡ run
unfolding fronted
front_taken run out n e s = ap (take n) e ∙ take_at run (drop (length run) out) n (sym s)

pub filled_whole : (n : ℕ) {xs run left : List ℕ} → left ≡ fronted xs (replicate n 0) → xs ≡ run → length run ≡ n → left ≡ run
filled_whole n {xs} {run} {left} e is size =
    e ∙ ap (λ (l : List ℕ). fronted l (replicate n 0)) is ∙ fronted_whole run (replicate n 0) (size ∙ sym (length-replicate n 0))

pub obeys_run : (rule : Rule) (text run : List ℕ) → decoded text ≡ bytes run → text_obeys rule text ≡ (leb 1 (length run) && obeys rule run)
unfolding text_obeys
obeys_run rule text run e = ap (decoded_obeys rule) e

-- the bytes of a number are one at least
pub number_test : (run : List ℕ) → (leb 1 (length run) && obeys number run) ≡ is_numeral 4 run
unfolding obeys is_number is_numeral
number_test [] = refl
number_test (b ∷ bs) = simp (le-leb 1 (length (b ∷ bs)) (omega arith))

-- masks: a length byte first
pub mask_none : (run : List ℕ) (n : ℕ) → n ≡ length run → n ≡ 0 → (leb 1 (length run) && obeys mask run) ≡ false
mask_none run n s z = simp (lt-leb 1 (length run) (omega arith))

pub mask_test : (run out : List ℕ) (n : ℕ) {left : List ℕ} → left ≡ fronted run out → n ≡ length run → (n ≡ 0 → ⊥)
    → (leb 1 (length run) && obeys mask run) ≡ (eqb (get_or left 0 0) (n - 1) && is_numeral 8 (take (n - 1) (drop 1 left)))
unfolding obeys is_mask fronted
mask_test [] out n e s more = absurd (more s)
mask_test (b ∷ bs) out n {left} e s more =
    let size : n - 1 ≡ length bs = omega arith in
    simp (le-leb 1 (length (b ∷ bs)) (omega arith))
    (sym (ap₂ (λ (l : List ℕ) (k : ℕ). eqb (get_or l 0 0) k && is_numeral 8 (take k (drop 1 l))) e size
    ∙ ap (λ (l : List ℕ). eqb b (length bs) && is_numeral 8 l) (take_at bs (drop (length (b ∷ bs)) out) (length bs) refl)))

pub filled_within : {text out left : List ℕ} {n : ℕ} → Filled text out left n → n ≤ length left
filled_within {out = out} f = omega (arith, f.size, f.fits, ap length f.front, length_fronted f.run out f.fits)

-- a size that was measured
pub sized_test : (n low high : ℕ) → 1 ≤ low → (leb 1 n && (leb low n && leb n high)) ≡ (leb low n && leb n high)
sized_test n low high one =
    tested (leb low n) (λ e. simp (le-leb 1 n (omega (arith, leb-true low n e)))) (λ e. rw e (and-false (leb 1 n)))

pub either_test : (n short long : ℕ) → 1 ≤ short → 1 ≤ long → (leb 1 n && (eqb n short || eqb n long)) ≡ (eqb n short || eqb n long)
either_test n short long s l =
    tested (leb 1 n) (λ e. rw e)
    (λ e. let none : n < 1 = leb-false 1 n e in rw (e, ne_eqb n short (λ z. omega arith), ne_eqb n long (λ z. omega arith)))

-- the number of a mask is that of the bytes after its length byte
pub mask_rest : (bs : List ℕ) → Numbers.number (take (length bs - 1) (drop 1 bs)) ≡ mask_of bs
unfolding mask_of Numbers.number
mask_rest [] = refl
mask_rest (b ∷ bs) = ap Numbers.number (take_all (length (b ∷ bs) - 1) bs (omega arith))

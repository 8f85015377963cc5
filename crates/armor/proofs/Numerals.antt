-- A number and its bytes, and a mask and its bytes, determine each other.
-- Assumes nothing.
use mathlib.Core.Path.{◌≡◌, refl, sym, ap, ap₂, ◌∙◌}
use mathlib.Core.Bool.{Bool, true, false, not, ◌&&◌}
use mathlib.Core.List.{List, [], ◌∷◌, ◌++◌, append-nil}
use Prim.Native.Nat.{ℕ, zero, suc, ◌+◌, ◌*◌, ◌/◌, ◌%◌, ◌^◌, ◌-◌, ◌<◌, ◌≤◌}
use native.Mathlib.Nat.{div-eq_of_lt, zero-div, zero-mul, zero-add, lt_of_lt_of_le, sub_self}
use native.Mathlib.Numerals.{add-one}
use native.Mathlib.Omega.{arith}
use lib.Dec.{eqb}
use lib.Pow.{pow_mono}
use lib.ListN.{length, take, drop, replicate, length-drop, drop_of_length-le}
use lib.Seq.{take_all, take_at}
use borrow.Author.Tests.{eqb-true, leb-true, le-leb, eq-eqb, not-true}
use Rattle.cells.specs.Runs.{Bytes, spliced, part}
use Rattle.cells.specs.Numbers.{bytes_of, number}
use Rattle.cells.specs.Spans.{leading}
use Rattle.cells.proofs.Tests.{tested, both}
use Rattle.cells.proofs.Numbers.{length_bytes_of, bytes_bytes_of, bytes_rest, number_below, number_of, bytes_of_number, bytes_of_append, number_append, bytes_first}
use Rattle.cells.proofs.Runs.{length_spliced}
use Rattle.armor.specs.Numerals.{shortest, plain, number_bytes, is_numeral, is_number, mask_bytes, is_mask, mask_of}

-- two tests in a row
pub first : (a b : Bool) → (a && b) ≡ true → a ≡ true
first a b h = (both a b h).0

pub second : (a b : Bool) → (a && b) ≡ true → b ≡ true
second a b h = (both a b h).1

pub at_once : {a b : Bool} → a ≡ true → b ≡ true → (a && b) ≡ true
at_once p q = simp (p, q)

-- what holds of a run and its shortest form
by_shortest : (P : List ℕ → List ℕ → Type 0) → P [] [] → ((b : ℕ) → P (b ∷ []) (b ∷ [])) → ((c : ℕ) (bs s : List ℕ) → P (c ∷ bs) s → P (0 ∷ c ∷ bs) s)
    → ((b c : ℕ) (bs : List ℕ) → eqb b 0 ≡ false → P (b ∷ c ∷ bs) (b ∷ c ∷ bs)) → (bs : List ℕ) → P bs (shortest bs)
unfolding shortest
by_shortest P none one skip keep [] = none
by_shortest P none one skip keep (b ∷ []) = one b
by_shortest P none one skip keep (b ∷ c ∷ bs) =
    let h = by_shortest P none one skip keep (c ∷ bs) in
    tested (eqb b 0) (λ e. rw (eqb-true b 0 e) (skip c bs (shortest (c ∷ bs)) h)) (λ e. rw e (keep b c bs e))

plain_shortest : (bs : List ℕ) → plain (shortest bs) ≡ true
unfolding plain
plain_shortest = by_shortest (λ xs s. plain s ≡ true) refl (λ b. refl) (λ c bs s h. h) (λ b c bs e. ap not e)

number_shortest : (bs : List ℕ) → number (shortest bs) ≡ number bs
unfolding number
number_shortest =
    by_shortest (λ xs s. number s ≡ number xs) refl (λ b. refl) (λ c bs s h. h ∙ sym (rw (zero-mul, zero-add))) (λ b c bs e. refl)

-- it stands at the run's end
suffix : (bs : List ℕ) → (length (shortest bs) ≤ length bs) × (drop (length bs - length (shortest bs)) bs ≡ shortest bs)
suffix =
    by_shortest (λ xs s. (length s ≤ length xs) × (drop (length xs - length s) xs ≡ s)) (omega arith, refl) (λ b. (omega arith, refl))
    (λ c bs s h.
    let e : length (0 ∷ c ∷ bs) - length s ≡ suc (length (c ∷ bs) - length s) = omega (arith, h.0) in
    (omega (arith, h.0), ap (λ (i : ℕ). drop i (0 ∷ c ∷ bs)) e ∙ h.1))
    (λ b c bs e. (omega arith, ap (λ (i : ℕ). drop i (b ∷ c ∷ bs)) (sub_self (length (b ∷ c ∷ bs)))))

-- it is not empty where the run is not
length_shortest : (b : ℕ) (bs : List ℕ) → (1 ≤ length (shortest (b ∷ bs))) × (length (shortest (b ∷ bs)) ≤ length (b ∷ bs))
length_shortest b bs = (
  by_shortest (λ xs s. 1 ≤ length xs → 1 ≤ length s) (λ h. h) (λ b h. h) (λ c bs s h more. h (omega arith)) (λ b c bs e h. h) (b ∷ bs) (omega arith),
  (suffix (b ∷ bs)).0,
)

shortest_plain : (bs : List ℕ) → plain bs ≡ true → shortest bs ≡ bs
unfolding shortest plain
shortest_plain [] h = refl
shortest_plain (b ∷ []) h = refl
shortest_plain (b ∷ c ∷ bs) h = simp (not-true (eqb b 0) h)

-- leading zero bytes make no difference
shortest_zeros : (k b : ℕ) (bs : List ℕ) → shortest (replicate k 0 ++ b ∷ bs) ≡ shortest (b ∷ bs)
unfolding shortest
shortest_zeros zero b bs = refl
shortest_zeros (suc zero) b bs = refl
shortest_zeros (suc (suc k)) b bs = shortest_zeros (suc k) b bs

bytes_of_zero : (k : ℕ) → bytes_of k 0 ≡ replicate k 0
unfolding bytes_of
bytes_of_zero zero = refl
bytes_of_zero (suc k) = ap₂ ◌∷◌ (ap (λ (q : ℕ). q % 256) (zero-div (2 ^ (8 * k))) ∙ refl) (bytes_of_zero k)

-- a number that fits k + 1 bytes is given by these
pub fitting : (j k n : ℕ) → j + suc k ≡ 8 → n < 2 ^ (8 * suc k) → number_bytes n ≡ shortest (bytes_of (suc k) n)
unfolding number_bytes bytes_of
fitting j k n e h =
    ap (λ (i : ℕ). shortest (bytes_of i n)) (sym e)
    ∙ ap shortest (bytes_of_append j (suc k) n ∙ ap (λ (q : ℕ). bytes_of j q ++ bytes_of (suc k) n) (div-eq_of_lt h))
    ∙ ap (λ (z : List ℕ). shortest (z ++ bytes_of (suc k) n)) (bytes_of_zero j)
    ∙ shortest_zeros j _ (bytes_of k n)

pub number_number_bytes : (n : ℕ) → n < 2 ^ 64 → number (number_bytes n) ≡ n
unfolding number_bytes
number_number_bytes n h = number_shortest (bytes_of 8 n) ∙ number_of 8 n h

pub length_number_bytes : (n : ℕ) → (1 ≤ length (number_bytes n)) × (length (number_bytes n) ≤ 8)
unfolding number_bytes bytes_of
length_number_bytes n = length_shortest (n / 2 ^ (8 * 7) % 256) (bytes_of 7 n)

bytes_shortest : (bs : List ℕ) → Bytes bs → Bytes (shortest bs)
bytes_shortest =
    by_shortest (λ xs s. Bytes xs → Bytes s) (λ h. h) (λ b h. h) (λ c bs s h k. h (bytes_rest 0 (c ∷ bs) k)) (λ b c bs e h. h)

pub bytes_number_bytes : (n : ℕ) → Bytes (number_bytes n)
unfolding number_bytes
bytes_number_bytes n = bytes_shortest (bytes_of 8 n) (bytes_bytes_of 8 n)

pub bytes_mask_bytes : (m : ℕ) → Bytes (mask_bytes m)
unfolding mask_bytes
bytes_mask_bytes m = bytes_first (length (number_bytes m)) (number_bytes m) (omega (arith, (length_number_bytes m).1)) (bytes_number_bytes m)

pub length_mask_bytes : (m : ℕ) → length (mask_bytes m) ≤ 9
unfolding mask_bytes
length_mask_bytes m = omega (arith, (length_number_bytes m).1)

-- what `is_numeral` says
pub numeral_parts : (k : ℕ) (bs : List ℕ) → is_numeral k bs ≡ true → (1 ≤ length bs) × (length bs ≤ k) × (plain bs ≡ true)
unfolding is_numeral
numeral_parts k bs t = search (first, second, leb-true)

pub numeral_whole : (k : ℕ) (bs : List ℕ) → 1 ≤ length bs → length bs ≤ k → plain bs ≡ true → is_numeral k bs ≡ true
unfolding is_numeral
numeral_whole k bs low high p = at_once (le-leb 1 (length bs) low) (at_once (le-leb (length bs) k high) p)

-- the bytes of a number that fits k + 1 of them
pub numeral : (j k n : ℕ) → j + suc k ≡ 8 → n < 2 ^ (8 * suc k) → is_numeral (suc k) (number_bytes n) ≡ true
unfolding bytes_of
numeral j k n e h =
    let l = length_shortest (n / 2 ^ (8 * k) % 256) (bytes_of k n) in
    let all : length (bytes_of k n) ≡ k = length_bytes_of k n in
    rw (fitting j k n e h) (numeral_whole (suc k) (shortest (bytes_of (suc k) n)) l.0 (omega arith) (plain_shortest (bytes_of (suc k) n)))

-- a run that is the bytes of a number is those of its number
pub numeral_number : (k : ℕ) (bs : List ℕ) → k ≤ 8 → Bytes bs → is_numeral k bs ≡ true → number_bytes (number bs) ≡ bs
numeral_number k [] w h t = absurd (let p = numeral_parts k [] t in omega (arith, p.0))
numeral_number k (b ∷ bs) w h t =
    let p = numeral_parts k (b ∷ bs) t in
    fitting (8 - suc (length bs)) (length bs) (number (b ∷ bs)) (omega arith) (number_below (b ∷ bs) h)
    ∙ ap shortest (bytes_of_number (b ∷ bs) h)
    ∙ shortest_plain (b ∷ bs) p.2

-- numbers of 1 to 4 bytes
pub number_is : (n : ℕ) → n < 2 ^ 32 → is_number (number_bytes n) ≡ true
unfolding is_number
number_is n h = numeral 4 3 n refl h

pub number_bytes_number : (bs : List ℕ) → Bytes bs → is_number bs ≡ true → number_bytes (number bs) ≡ bs
unfolding is_number
number_bytes_number bs h t = numeral_number 4 bs (omega arith) h t

-- no two numbers have the same bytes
pub number_bytes_injective : (m n : ℕ) → m < 2 ^ 64 → n < 2 ^ 64 → number_bytes m ≡ number_bytes n → m ≡ n
number_bytes_injective m n hm hn e = sym (number_number_bytes m hm) ∙ ap number e ∙ number_number_bytes n hn

-- masks
pub mask_is : (m : ℕ) → m < 2 ^ 64 → is_mask (mask_bytes m) ≡ true
unfolding mask_bytes is_mask
mask_is m h = at_once (eq-eqb (length (number_bytes m)) (length (number_bytes m)) refl) (numeral 0 7 m refl h)

pub mask_of_mask_bytes : (m : ℕ) → m < 2 ^ 64 → mask_of (mask_bytes m) ≡ m
unfolding mask_bytes mask_of
mask_of_mask_bytes m h = number_number_bytes m h

-- what `is_mask` says
pub mask_parts : (n : ℕ) (bs : List ℕ) → is_mask (n ∷ bs) ≡ true → (n ≡ length bs) × (is_numeral 8 bs ≡ true)
unfolding is_mask
mask_parts n bs t = search (first, second, eqb-true)

pub mask_bytes_mask_of : (bs : List ℕ) → Bytes bs → is_mask bs ≡ true → mask_bytes (mask_of bs) ≡ bs
unfolding mask_of mask_bytes is_mask
mask_bytes_mask_of [] h t = absurd (let z : ◌≡◌ {A = ℕ} 0 1 = cc in omega arith)
mask_bytes_mask_of (n ∷ bs) h t =
    let p = mask_parts n bs t in
    let e : number_bytes (number bs) ≡ bs = numeral_number 8 bs (omega arith) (bytes_rest n bs h) p.1 in
    ap₂ ◌∷◌ (ap length e ∙ sym p.0) e

pub mask_bytes_injective : (l m : ℕ) → l < 2 ^ 64 → m < 2 ^ 64 → mask_bytes l ≡ mask_bytes m → l ≡ m
mask_bytes_injective l m hl hm e = sym (mask_of_mask_bytes l hl) ∙ ap mask_of e ∙ mask_of_mask_bytes m hm

-- the number of bytes at the end of eight
number_zeros : (k n : ℕ) → number (take k (replicate n 0)) ≡ 0
unfolding number
number_zeros zero n = refl
number_zeros (suc k) zero = refl
number_zeros (suc k) (suc n) = omega (arith, number_zeros k n)

pub number_eight : (bs : List ℕ) (k : ℕ) {eight : List ℕ} → k + length bs ≡ 8 → eight ≡ spliced (replicate 8 0) k bs → number (part eight 0 8) ≡ number bs
unfolding spliced
number_eight bs k e p =
    let zeros : List ℕ = replicate 8 0 in
    let long : length (spliced zeros k bs) ≡ 8 = length_spliced zeros bs k (omega arith) in
    let rest : drop (length bs) (drop k zeros) ≡ [] = drop_of_length-le (drop k zeros) {i = length bs} (omega (arith, length-drop k zeros)) in
    ap (λ (l : List ℕ). number (take 8 l)) p
    ∙ ap number (take_all 8 (spliced zeros k bs) (omega arith))
    ∙ ap (λ (l : List ℕ). number (take k zeros ++ (bs ++ l))) rest
    ∙ ap (λ (l : List ℕ). number (take k zeros ++ l)) (append-nil bs)
    ∙ number_append (take k zeros) bs
    ∙ ap (λ (n : ℕ). n * 2 ^ (8 * length bs) + number bs) (number_zeros k 8)
    ∙ omega arith

pub number_small : (bs : List ℕ) → Bytes bs → length bs ≤ 4 → number bs < 2 ^ 32
number_small bs h few =
    let more : 8 * length bs ≤ 32 = omega arith in
    lt_of_lt_of_le (number_below bs h) (pow_mono more)

pub length_number : (n : ℕ) → n < 2 ^ 32 → length (number_bytes n) ≤ 4
length_number n h = (numeral_parts 4 (number_bytes n) (numeral 4 3 n refl h)).1

-- a number's bytes put after the length byte
pub mask_front : (m k : ℕ) {ys l : List ℕ} → ys ≡ number_bytes m → k ≡ length ys → l ≡ spliced (k ∷ replicate 8 0) 1 ys → take (k + 1) l ≡ mask_bytes m
unfolding spliced mask_bytes
mask_front m k {ys} is e p =
    ap (take (k + 1)) p
    ∙ ap (λ (j : ℕ). take j (k ∷ (ys ++ drop (length ys) (replicate 8 0)))) (add-one k)
    ∙ ap₂ ◌∷◌ (e ∙ ap length is) (take_at ys (drop (length ys) (replicate 8 0)) k (sym e) ∙ is)

-- the zeros that stand before the last byte
pub shortest_cut : (bs : List ℕ) → 1 ≤ length bs → drop (leading (λ b. eqb b 0) (take (length bs - 1) bs)) bs ≡ shortest bs
unfolding shortest leading
shortest_cut [] h = absurd (omega arith)
shortest_cut (b ∷ []) h = refl
shortest_cut (b ∷ c ∷ bs) h =
    let e : length (b ∷ c ∷ bs) - 1 ≡ suc (length (c ∷ bs) - 1) = omega arith in
    rw e (tested (eqb b 0) (λ t. rw t (shortest_cut (c ∷ bs) (omega arith))) (λ t. rw t))

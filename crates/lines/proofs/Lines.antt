-- A block that is lines has one reading, and `lines_in` finds it.
-- Assumes nothing.
use mathlib.Core.Path.{◌≡◌, refl, sym, ap, ◌∙◌}
use mathlib.Core.List.{List, [], ◌∷◌, ◌++◌, append_assoc}
use mathlib.Core.Bool.{Bool, true, false, cond, and-eq-true_iff}
use Prim.Native.Nat.{ℕ, zero, suc, ◌+◌, ◌-◌, ◌≤◌, ◌<◌}
use native.Mathlib.Omega.{arith}
use borrow.Author.Tests.{ltb-true, lt-ltb}
use lib.Dec.{ltb}
use lib.ListN.{length, take, drop, length-append, length-drop, take-append-drop}
use lib.Seq.{take-append_seam, drop-append_seam}
use Rattle.cells.specs.Text.{codes}
use Rattle.cells.specs.Spans.{all, leading}
use Rattle.cells.specs.Runs.{same}
use Rattle.cells.proofs.Equality.{same_self, same_prefix, same_equal}
use Rattle.names.specs.Names.{has_byte, token_byte, is_token}
use Rattle.cells.proofs.Spans.{leading_append}
use Rattle.lines.specs.Lines.{Line, colon, CR, LF, value_byte, good_line, all_good, line_text, text_of, Lines, front_line, starts_line, lines_up_to, lines_in, good_block}

-- the parts of a good line
pub good_parts : (l : Line) → good_line l ≡ true → (0 < length l.name) × (all token_byte l.name ≡ true) × (all value_byte l.value ≡ true)
unfolding good_line is_token
good_parts l h =
    let both = (and-eq-true_iff (is_token l.name) (all value_byte l.value)).0 h in
    let token = (and-eq-true_iff (ltb 0 (length l.name)) (all token_byte l.name)).0 both.0 in
    (ltb-true 0 (length l.name) token.0, token.1, both.1)

pub good_line_lem : (l : Line) → 0 < length l.name → all token_byte l.name ≡ true → all value_byte l.value ≡ true → good_line l ≡ true
unfolding good_line is_token
good_line_lem l h t v = rw (lt-ltb 0 (length l.name) h, t, v)

pub colon_ends : token_byte colon ≡ false
unfolding token_byte has_byte codes
colon_ends = refl

pub return_ends : value_byte CR ≡ false
unfolding value_byte
return_ends = refl

-- a line's text and what stands after it, part by part
pub line_parts : (l : Line) (rest : List ℕ) → line_text l ++ rest ≡ l.name ++ (colon ∷ (l.value ++ (CR ∷ LF ∷ rest)))
unfolding line_text
line_parts l rest = simp append_assoc

pub length_line : (l : Line) → length (line_text l) ≡ length l.name + length l.value + 3
unfolding line_text
length_line l = simp length-append (omega (arith, length-append l.value (CR ∷ LF ∷ [])))

drop_past : (xs : List ℕ) (y : ℕ) (ys : List ℕ) → drop (suc (length xs)) (xs ++ y ∷ ys) ≡ ys
drop_past [] y ys = refl
drop_past (x ∷ xs) y ys = drop_past xs y ys

-- a run that begins with a good line has that line at its front
front_line_lem : (l : Line) (rest : List ℕ) → good_line l ≡ true → front_line (line_text l ++ rest) ≡ l
unfolding front_line
front_line_lem l rest h =
    let after = l.value ++ (CR ∷ LF ∷ rest) in
    let size = leading_append token_byte l.name colon after (good_parts l h).1 colon_ends in
    let long = leading_append value_byte l.value CR (LF ∷ rest) (good_parts l h).2 return_ends in
    rw (line_parts l rest, size, drop_past l.name colon after, long, take-append_seam l.name (colon ∷ after), take-append_seam l.value (CR ∷ LF ∷ rest))

starts_line_lem : (l : Line) (rest : List ℕ) → good_line l ≡ true → starts_line (line_text l ++ rest) ≡ true
unfolding starts_line
starts_line_lem l rest h =
    rw (front_line_lem l rest h, take-append_seam (line_text l) rest, h) (same_self (line_text l))

-- a run that is found to begin with a line does
pub started : (xs : List ℕ) → starts_line xs ≡ true
    → (good_line (front_line xs) ≡ true) × (xs ≡ line_text (front_line xs) ++ drop (length (line_text (front_line xs))) xs)
unfolding starts_line
started xs h =
    let text = line_text (front_line xs) in
    let both = (and-eq-true_iff (good_line (front_line xs)) (same (take (length text) xs) text)).0 h in
    (both.0, sym (take-append-drop (length text) xs) ∙ ap (λ (l : List ℕ). l ++ drop (length text) xs) (same_equal (take (length text) xs) text both.1))

no_line_empty : starts_line [] ≡ false
unfolding starts_line good_line is_token front_line leading
no_line_empty = refl

-- as many lines as there are bytes are enough
enough : (m n : ℕ) (xs : List ℕ) → length xs ≤ m → length xs ≤ n → lines_up_to m xs ≡ lines_up_to n xs
unfolding lines_up_to
enough zero zero xs h k = refl
enough zero (suc n) [] h k = rw no_line_empty
enough zero (suc n) (x ∷ xs) h k = absurd (omega arith)
enough (suc m) zero [] h k = rw no_line_empty
enough (suc m) zero (x ∷ xs) h k = absurd (omega arith)
enough (suc m) (suc n) xs h k =
    let text = line_text (front_line xs) in
    let rest = drop (length text) xs in
    let short : length rest ≤ length xs - 3 = omega (arith, length-drop (length text) xs, length_line (front_line xs)) in
    ap (λ (ls : List Line). cond (starts_line xs) (front_line xs ∷ ls) []) (enough m n rest (omega arith) (omega arith))

lines_enough : (xs : List ℕ) → lines_in xs ≡ lines_up_to (suc (length xs)) xs
unfolding lines_in
lines_enough xs = enough (length xs) (suc (length xs)) xs (omega arith) (omega arith)

pub lines_none : lines_in [] ≡ []
unfolding lines_in lines_up_to
lines_none = refl

up_to_more : (n : ℕ) (l : Line) (rest : List ℕ) → good_line l ≡ true → length rest ≤ n → lines_up_to (suc n) (line_text l ++ rest) ≡ l ∷ lines_in rest
unfolding lines_up_to lines_in
up_to_more n l rest h k =
    rw (starts_line_lem l rest h, front_line_lem l rest h, drop-append_seam (line_text l) rest)
    (ap (λ (ls : List Line). l ∷ ls) (enough n (length rest) rest k (omega arith)))

pub lines_more : (l : Line) (rest : List ℕ) → good_line l ≡ true → lines_in (line_text l ++ rest) ≡ l ∷ lines_in rest
lines_more l rest h =
    let whole = line_text l ++ rest in
    lines_enough whole ∙ up_to_more (length whole) l rest h (omega (arith, length-append (line_text l) rest))

up_to_stop : (n : ℕ) (xs : List ℕ) → starts_line xs ≡ false → lines_up_to n xs ≡ []
unfolding lines_up_to
up_to_stop zero xs h = refl
up_to_stop (suc n) xs h = rw h

pub lines_stop : (xs : List ℕ) → ((l : Line) (rest : List ℕ) → good_line l ≡ true → xs ≡ line_text l ++ rest → ⊥) → lines_in xs ≡ []
unfolding lines_in
lines_stop xs h = up_to_stop (length xs) xs (go (starts_line xs) refl)
  where
    go : (b : Bool) → starts_line xs ≡ b → starts_line xs ≡ false
    go true e = let found = started xs e in absurd (h (front_line xs) (drop (length (line_text (front_line xs))) xs) found.0 found.1)
    go false e = e

-- the same of whether a block is lines
pub good_none : good_block [] ≡ true
unfolding good_block text_of
good_none = rw lines_none (same_self [])

pub good_more : (l : Line) (rest : List ℕ) → good_line l ≡ true → good_block (line_text l ++ rest) ≡ good_block rest
unfolding good_block text_of
good_more l rest h = rw (lines_more l rest h) (same_prefix (line_text l) (text_of (lines_in rest)) rest)

pub good_stop : (xs : List ℕ) → 0 < length xs → ((l : Line) (rest : List ℕ) → good_line l ≡ true → xs ≡ line_text l ++ rest → ⊥) → good_block xs ≡ false
unfolding good_block text_of same
good_stop [] k h = absurd (omega arith)
good_stop (x ∷ xs) k h = rw (lines_stop (x ∷ xs) h)

-- a block that is found to be lines is the lines found
all_good_lem : (n : ℕ) (xs : List ℕ) → all_good (lines_up_to n xs) ≡ true
unfolding lines_up_to all_good
all_good_lem zero xs = refl
all_good_lem (suc n) xs = go (starts_line xs) refl (all_good_lem n (drop (length (line_text (front_line xs))) xs))
  where
    go : (b : Bool) → starts_line xs ≡ b → all_good (lines_up_to n (drop (length (line_text (front_line xs))) xs)) ≡ true
        → all_good (cond b (front_line xs ∷ lines_up_to n (drop (length (line_text (front_line xs))) xs)) []) ≡ true
    go true e h = rw (started xs e).0 h
    go false e h = refl

pub good_lines : (block : List ℕ) → good_block block ≡ true → Lines block (lines_in block)
unfolding good_block lines_in
good_lines block h = record { text = sym (same_equal (text_of (lines_in block)) block h); good = all_good_lem (length block) block }

lines_text : (ls : List Line) → all_good ls ≡ true → lines_in (text_of ls) ≡ ls
unfolding text_of all_good
lines_text [] h = lines_none
lines_text (l ∷ ls) h =
    let both = (and-eq-true_iff (good_line l) (all_good ls)).0 h in
    lines_more l (text_of ls) both.0 ∙ ap (λ (rest : List Line). l ∷ rest) (lines_text ls both.1)

-- a block that is lines has one reading
pub lines_unique : (block : List ℕ) (ls : List Line) → Lines block ls → (good_block block ≡ true) × (lines_in block ≡ ls)
unfolding good_block
lines_unique block ls h =
    let found = ap lines_in h.text ∙ lines_text ls h.good in
    (rw (found, ← h.text) (same_self block), found)

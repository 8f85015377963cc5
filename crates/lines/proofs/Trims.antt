-- Of a value's bytes a space and a tab alone are ASCII white space, so std's trimming is that of values.
-- Assumes nothing.
use Rattle.std.specs.Str.{IsTrimAscii}
use Rattle.std.specs.Char.{is_ascii_whitespace}
use Rattle.std.specs.List.{prefix_len, suffix_len}
use Rattle.std.proofs.lemmas.List.Sums.{suffix_len-take_yes, suffix_len-take_no}
use Rattle.std.proofs.lemmas.Str.Ascii.{trim_ascii_is}
use mathlib.Core.Path.{◌≡◌, refl, sym, ap, ◌∙◌}
use mathlib.Core.List.{List, [], ◌∷◌, ◌++◌}
use mathlib.Core.Bool.{true, false, false≢true, ◌&&◌, and-false}
use Prim.Native.Nat.{ℕ, zero, suc, ◌+◌, ◌-◌, ◌≤◌, ◌<◌}
use native.Mathlib.Omega.{arith}
use borrow.Author.Tests.{ltb-true, ltb-false, ne_eqb, lt-leb}
use lib.Dec.{ltb}
use lib.ListN.{length, get_or, take, drop}
use lib.Seq.{take-suc, take_all}
use Rattle.cells.specs.Spans.{all, leading}
use Rattle.cells.proofs.Tests.{tested, both}
use Rattle.names.proofs.Tokens.{agree}
use Rattle.lines.specs.Lines.{value_byte}
use Rattle.lines.specs.Values.{blank, trim_front, keeping, trim_end, trimmed}

past_bytes : (b : ℕ) → 256 ≤ b → value_byte b ≡ false
unfolding value_byte
past_bytes b h = simp (ne_eqb b 9 (λ e. omega arith), lt-leb b 126 (omega arith), lt-leb b 255 (omega arith), and-false)

white : (b : ℕ) → value_byte b ≡ true → is_ascii_whitespace b ≡ blank b
unfolding value_byte
white b h =
    tested (ltb b 256)
    (λ l. rw h at (agree (λ (k : ℕ). value_byte k && is_ascii_whitespace k) (λ (k : ℕ). value_byte k && blank k) 256 refl b (ltb-true b 256 l)))
    (λ l. absurd (false≢true (sym (past_bytes b (ltb-false b 256 l)) ∙ h)))

front_white : (xs : List ℕ) → all value_byte xs ≡ true → prefix_len is_ascii_whitespace xs ≡ leading blank xs
unfolding all leading
front_white [] h = refl
front_white (x ∷ xs) h =
    let parts = both (value_byte x) (all value_byte xs) h in tested (blank x) (λ t. rw (white x parts.0, t, front_white xs parts.1) (omega arith)) (λ t. rw (white x parts.0, t) refl)

all_drop : (n : ℕ) (xs : List ℕ) → all value_byte xs ≡ true → all value_byte (drop n xs) ≡ true
unfolding all
all_drop zero xs h = h
all_drop (suc n) [] h = refl
all_drop (suc n) (x ∷ xs) h = all_drop n xs (both (value_byte x) (all value_byte xs) h).1

all_at : (xs : List ℕ) (i : ℕ) → all value_byte xs ≡ true → i < length xs → value_byte (get_or xs i 0) ≡ true
unfolding all
all_at [] i h l = absurd (omega arith)
all_at (x ∷ xs) zero h l = (both (value_byte x) (all value_byte xs) h).0
all_at (x ∷ xs) (suc i) h l = all_at xs i (both (value_byte x) (all value_byte xs) h).1 (omega arith)

end_blank : (xs : List ℕ) (b : ℕ) → blank b ≡ true → trim_end (xs ++ (b ∷ [])) ≡ trim_end xs
unfolding trim_end
end_blank [] b h = rw h
end_blank (x ∷ xs) b h = ap (keeping x) (end_blank xs b h)

end_kept : (xs : List ℕ) (b : ℕ) → blank b ≡ false → trim_end (xs ++ (b ∷ [])) ≡ xs ++ (b ∷ [])
unfolding trim_end
end_kept [] b h = rw h
end_kept (x ∷ []) b h = ap (keeping x) (end_kept [] b h)
end_kept (x ∷ y ∷ ys) b h = ap (keeping x) (end_kept (y ∷ ys) b h)

-- from the end, one byte after the other
end_white : (xs : List ℕ) (n : ℕ) → all value_byte xs ≡ true → n ≤ length xs
    → trim_end (take n xs) ≡ take (n - suffix_len is_ascii_whitespace (take n xs)) xs
unfolding trim_end
end_white xs zero h l = refl
end_white xs (suc n) h l =
    let before : suc n - 1 ≡ n = omega arith in
    let last : take (suc n) xs ≡ take n xs ++ (get_or xs n 0 ∷ []) = take-suc xs n 0 (omega arith) in
    let kind = white (get_or xs n 0) (all_at xs n h (omega arith)) in
    tested (blank (get_or xs n 0))
    (λ t.
    let more : suffix_len is_ascii_whitespace (take (suc n) xs) ≡ 1 + suffix_len is_ascii_whitespace (take n xs) =
    rw before at (suffix_len-take_yes is_ascii_whitespace xs (suc n) 0 (omega arith) l (rw before (kind ∙ t))) in
    let fewer : n - suffix_len is_ascii_whitespace (take n xs) ≡ suc n - suffix_len is_ascii_whitespace (take (suc n) xs) = omega (arith, more) in
    ap trim_end last ∙ end_blank (take n xs) _ t ∙ end_white xs n h (omega arith) ∙ ap (λ (k : ℕ). take k xs) fewer)
    (λ t.
    let none : suffix_len is_ascii_whitespace (take (suc n) xs) ≡ 0 = suffix_len-take_no is_ascii_whitespace xs (suc n) 0 (omega arith) l (rw before (kind ∙ t)) in
    let all : suc n ≡ suc n - suffix_len is_ascii_whitespace (take (suc n) xs) = omega (arith, none) in
    ap trim_end last ∙ end_kept (take n xs) _ t ∙ sym last ∙ ap (λ (k : ℕ). take k xs) all)

pub trimmed_white : (value r : List ℕ) → all value_byte value ≡ true → IsTrimAscii value r → r ≡ trimmed value
unfolding trimmed trim_front
trimmed_white value r h is =
    let t = drop (leading blank value) value in
    let front : t ≡ drop (prefix_len is_ascii_whitespace value) value = ap (λ (n : ℕ). drop n value) (sym (front_white value h)) in
    let whole : take (length t) t ≡ t = take_all (length t) t (omega arith) in
    trim_ascii_is value r t front is ∙ sym (rw whole at (end_white t (length t) (all_drop (leading blank value) value h) (omega arith)))

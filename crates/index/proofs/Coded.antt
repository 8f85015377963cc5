-- Entries two bytes each: entries and their bytes determine each other, and an entry put among others or taken out moves those after it.
-- Assumes nothing.
use mathlib.Core.Path.{◌≡◌, refl, sym, ap, ap₂, ◌∙◌}
use mathlib.Core.List.{List, [], ◌∷◌, ◌++◌, append_assoc}
use Prim.Native.Nat.{ℕ, zero, suc, ◌+◌, ◌-◌, ◌*◌, ◌≤◌, ◌<◌}
use native.Mathlib.Nat.{sub-zero}
use native.Mathlib.Omega.{arith}
use lib.ListN.{length, get_or, take, drop, replicate, length-append, length-take, length-drop, length-replicate, replicate-append-replicate}
use lib.Seq.{take-nil, drop-nil, take_at, take-append-le, drop-append-le, take-append-add, drop-drop, get_or-drop}
use Rattle.cells.specs.Runs.{Bytes}
use Rattle.cells.specs.Numbers.{bytes_of}
use Rattle.index.specs.Index.{vacant, filled, coded}
use Rattle.index.specs.InnerEntries.{entry_at}

two_more : (k : ℕ) → 2 * suc k ≡ suc (suc (2 * k))
two_more k = omega arith

pub length_coded : (es : List ℕ) → length (coded es) ≡ 2 * length es
unfolding coded bytes_of
length_coded [] = refl
length_coded (e ∷ es) = omega (arith, length_coded es)

coded_append : (xs ys : List ℕ) → coded (xs ++ ys) ≡ coded xs ++ coded ys
unfolding coded bytes_of
coded_append [] ys = refl
coded_append (x ∷ xs) ys = rw (coded_append xs ys)

take_coded : (k : ℕ) (es : List ℕ) → take (2 * k) (coded es) ≡ coded (take k es)
unfolding coded bytes_of
take_coded zero es = refl
take_coded (suc k) [] = take-nil (2 * suc k)
take_coded (suc k) (e ∷ es) = rw (two_more k, take_coded k es)

drop_coded : (k : ℕ) (es : List ℕ) → drop (2 * k) (coded es) ≡ coded (drop k es)
unfolding coded bytes_of
drop_coded zero es = refl
drop_coded (suc k) [] = drop-nil (2 * suc k)
drop_coded (suc k) (e ∷ es) = rw (two_more k) (drop_coded k es)

-- the entries after the first are those of the bytes after two
entry_later : (bytes : List ℕ) (k : ℕ) → entry_at (drop 2 bytes) k ≡ entry_at bytes (suc k)
entry_later bytes k =
    let high : 2 + 2 * k ≡ 2 * suc k = omega arith in
    let low : 2 + (2 * k + 1) ≡ 2 * suc k + 1 = omega arith in
    ap₂ (λ (x y : ℕ). x * 256 + y)
    (get_or-drop 2 bytes (2 * k) 0 ∙ ap (λ (i : ℕ). get_or bytes i 0) high)
    (get_or-drop 2 bytes (2 * k + 1) 0 ∙ ap (λ (i : ℕ). get_or bytes i 0) low)

pub entry_coded : (es : List ℕ) (k : ℕ) → k < length es → get_or es k 0 < 65536 → entry_at (coded es) k ≡ get_or es k 0
unfolding coded bytes_of
entry_coded [] k h small = absurd (omega arith)
entry_coded (e ∷ es) zero h small = omega arith
entry_coded (e ∷ es) (suc k) h small = sym (entry_later (coded (e ∷ es)) k) ∙ entry_coded es k (omega arith) small

-- the first n entries of some bytes
abbrev pub decoded : ℕ → List ℕ → List ℕ
decoded zero bytes = []
decoded (suc n) bytes = entry_at bytes 0 ∷ decoded n (drop 2 bytes)

pub length_decoded : (n : ℕ) (bytes : List ℕ) → length (decoded n bytes) ≡ n
length_decoded zero bytes = refl
length_decoded (suc n) bytes = ap suc (length_decoded n (drop 2 bytes))

pub decoded_at : (n : ℕ) (bytes : List ℕ) (k : ℕ) → k < n → get_or (decoded n bytes) k 0 ≡ entry_at bytes k
decoded_at zero bytes k h = absurd (omega arith)
decoded_at (suc n) bytes zero h = refl
decoded_at (suc n) bytes (suc k) h = decoded_at n (drop 2 bytes) k (omega arith) ∙ entry_later bytes k

pub coded_decoded : (n : ℕ) (bytes : List ℕ) → Bytes bytes → length bytes ≡ 2 * n → coded (decoded n bytes) ≡ bytes
unfolding coded bytes_of
coded_decoded zero [] b long = refl
coded_decoded zero (x ∷ bytes) b long = absurd (omega arith)
coded_decoded (suc n) [] b long = absurd (omega arith)
coded_decoded (suc n) (x ∷ []) b long = absurd (omega arith)
coded_decoded (suc n) (x ∷ y ∷ bytes) b long =
    ap₂ ◌∷◌ (omega (arith, b 0, b 1)) (ap₂ ◌∷◌ (omega (arith, b 0, b 1)) (coded_decoded n bytes (λ i. b (suc (suc i))) (omega arith)))

vacants : (n : ℕ) → coded (replicate n vacant) ≡ replicate (2 * n) 255
unfolding coded bytes_of
vacants zero = refl
vacants (suc n) = rw (two_more n, vacants n)

pub vacated : (n : ℕ) → coded (filled n []) ≡ replicate (2 * n) 255
vacated n = ap (λ (k : ℕ). coded (replicate k vacant)) (sub-zero n) ∙ vacants n

pub length_filled : (n : ℕ) (ps : List ℕ) → length ps ≤ n → length (filled n ps) ≡ n
length_filled n ps h = simp (length-append, length-replicate) (omega arith)

-- an entry is put among some; the last, which is vacant, is lost
opened_entries : (n at place m : ℕ) (ps : List ℕ) → at ≤ length ps → n - length ps ≡ m + 1
    → take at (filled n ps) ++ place ∷ take (n - at - 1) (drop at (filled n ps)) ≡ filled n (take at ps ++ place ∷ drop at ps)
opened_entries n at place m ps h some =
    let fewer : n - length (take at ps ++ place ∷ drop at ps) ≡ m = simp (length-append, length-take, length-drop) (omega arith) in
    let kept : n - at - 1 ≡ length (drop at ps) + m = omega (arith, length-drop at ps) in
    rw (
      take-append-le at ps _ h,
      drop-append-le at ps _ h,
      kept,
      take-append-add (drop at ps) _ m,
      some,
      ← (replicate-append-replicate m 1 vacant),
      take_at (replicate m vacant) _ m (length-replicate m vacant),
      fewer,
    )
    (sym (append_assoc (take at ps) (place ∷ drop at ps) (replicate m vacant)))

pub opened : (n at place : ℕ) (ps : List ℕ) {run left : List ℕ} → at ≤ length ps → length ps < n → run ≡ drop (2 * at) (coded (filled n ps))
    → left ≡ bytes_of 2 place ++ take (length run - 2) run
    → take (2 * at) (coded (filled n ps)) ++ left ≡ coded (filled n (take at ps ++ place ∷ drop at ps))
unfolding coded
opened n at place ps {run = run} h k r l =
    let es = filled n ps in
    let runs : run ≡ coded (drop at es) = r ∙ drop_coded at es in
    let kept : length run - 2 ≡ 2 * (n - at - 1) = omega (arith, ap length runs, length_coded (drop at es), length-drop at es, length_filled n ps (omega arith)) in
    rw (l, kept, runs, take_coded at es, take_coded (n - at - 1) (drop at es))
    (sym (coded_append (take at es) (place ∷ take (n - at - 1) (drop at es))) ∙ ap coded (opened_entries n at place (n - length ps - 1) ps h (omega arith)))

-- one is taken out, and the last is vacant
closed_entries : (n at : ℕ) (ps : List ℕ) → at < length ps → length ps ≤ n
    → take at (filled n ps) ++ (drop (suc at) (filled n ps) ++ vacant ∷ []) ≡ filled n (take at ps ++ drop (suc at) ps)
closed_entries n at ps h k =
    let m = n - length ps in
    let more : n - length (take at ps ++ drop (suc at) ps) ≡ m + 1 = simp (length-append, length-take, length-drop) (omega arith) in
    rw (take-append-le at ps _ (omega arith), drop-append-le (suc at) ps _ h, more, ← (replicate-append-replicate m 1 vacant))
    (simp append_assoc)

pub closed : (n at : ℕ) (ps : List ℕ) {run left : List ℕ} → at < length ps → length ps ≤ n → run ≡ drop (2 * at) (coded (filled n ps))
    → left ≡ drop 2 run ++ 255 ∷ 255 ∷ []
    → take (2 * at) (coded (filled n ps)) ++ left ≡ coded (filled n (take at ps ++ drop (suc at) ps))
unfolding coded bytes_of
closed n at ps h k r l =
    let es = filled n ps in
    let after : 2 * at + 2 ≡ 2 * suc at = omega arith in
    let last : coded (vacant ∷ []) ≡ 255 ∷ 255 ∷ [] = refl in
    rw (l, r, drop-drop 2 (2 * at) (coded es), after, take_coded at es, drop_coded (suc at) es, ← last)
    (rw (← (coded_append (drop (suc at) es) (vacant ∷ [])), ← (coded_append (take at es) (drop (suc at) es ++ vacant ∷ [])))
    (ap coded (closed_entries n at ps h k)))

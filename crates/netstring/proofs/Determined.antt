-- A row of netstrings determines the byte runs in it, and what follows it.
-- Assumes nothing.
use mathlib.Core.Path.{◌≡◌, refl, sym, ap, ap₂, ◌∙◌}
use mathlib.Core.List.{List, [], ◌∷◌, ◌++◌, append_assoc}
use Prim.Native.Nat.{ℕ}
use native.Mathlib.Omega.{arith}
use lib.ListN.{length, take, drop}
use lib.Seq.{take-append_seam, drop-append_seam}
use Rattle.cells.specs.Decimal.{decimal}
use Rattle.netstring.specs.Netstring.{colon, comma, netstring, netstrings}
use Rattle.cells.proofs.Digits.{Digits, one, ◌then◌, decimal_digits, decimal_injective}

heads : {x y : ℕ} {xs ys : List ℕ} → x ∷ xs ≡ y ∷ ys → x ≡ y
heads e = cc

tails : {x y : ℕ} {xs ys : List ℕ} → x ∷ xs ≡ y ∷ ys → xs ≡ ys
tails e = cc

no_colon : {es : List ℕ} → Digits es → (u v : List ℕ) → colon ∷ u ≡ es ++ v → ⊥
no_colon (one l h) u v e = omega (arith, heads e)
no_colon (b then es) u v e = omega (arith, heads e)

-- the digits before a colon
pub at_colon : {ds es : List ℕ} → Digits ds → Digits es → (u v : List ℕ) → ds ++ (colon ∷ u) ≡ es ++ (colon ∷ v) → (ds ≡ es) × (u ≡ v)
at_colon (one l h) (one m g) u v e = (ap (λ (d : ℕ). d ∷ []) (heads e), tails (tails e))
at_colon (one l h) (b then es) u v e = absurd (no_colon es u (colon ∷ v) (tails e))
at_colon (b then ds) (one l h) u v e = absurd (no_colon ds v (colon ∷ u) (sym (tails e)))
at_colon (b then ds) (c then es) u v e =
    let rest = at_colon ds es u v (tails e) in
    (ap₂ ◌∷◌ (heads e) rest.0, rest.1)

-- its layout, before what follows
pub netstring_then : (bs rest : List ℕ) → netstring bs ++ rest ≡ decimal (length bs) ++ (colon ∷ bs ++ (comma ∷ rest))
unfolding netstring
netstring_then bs rest = simp append_assoc

split : (a b r s : List ℕ) → length a ≡ length b → a ++ (comma ∷ r) ≡ b ++ (comma ∷ s) → (a ≡ b) × (r ≡ s)
split a b r s h e =
    let front : a ≡ b =
    sym (take-append_seam a (comma ∷ r)) ∙ ap (take (length a)) e ∙ ap (λ (n : ℕ). take n (b ++ (comma ∷ s))) h ∙ take-append_seam b (comma ∷ s) in
    let back : comma ∷ r ≡ comma ∷ s =
    sym (drop-append_seam a (comma ∷ r)) ∙ ap (drop (length a)) e ∙ ap (λ (n : ℕ). drop n (b ++ (comma ∷ s))) h ∙ drop-append_seam b (comma ∷ s) in
    (front, tails back)

-- THE LAW of one netstring: it determines its bytes and what follows
pub netstring_determined : (a b r s : List ℕ) → netstring a ++ r ≡ netstring b ++ s → (a ≡ b) × (r ≡ s)
netstring_determined a b r s e =
    let parts =
    at_colon (decimal_digits (length a)) (decimal_digits (length b)) (a ++ (comma ∷ r)) (b ++ (comma ∷ s))
    (sym (netstring_then a r) ∙ e ∙ netstring_then b s) in
    split a b r s (decimal_injective (length a) (length b) parts.0) parts.1

-- THE LAW of a row of them
pub netstrings_determined : (xs ys : List (List ℕ)) (r s : List ℕ) → length xs ≡ length ys → netstrings xs ++ r ≡ netstrings ys ++ s
    → (xs ≡ ys) × (r ≡ s)
unfolding netstrings
netstrings_determined [] [] r s h e = (refl, e)
netstrings_determined [] (y ∷ ys) r s h e = absurd (omega arith)
netstrings_determined (x ∷ xs) [] r s h e = absurd (omega arith)
netstrings_determined (x ∷ xs) (y ∷ ys) r s h e =
    let first =
    netstring_determined x y (netstrings xs ++ r) (netstrings ys ++ s)
    (sym (append_assoc (netstring x) (netstrings xs) r) ∙ e ∙ append_assoc (netstring y) (netstrings ys) s) in
    let rest = netstrings_determined xs ys r s (omega arith) first.1 in
    (ap₂ ◌∷◌ first.0 rest.0, rest.1)

-- a row after a row
pub netstrings_append : (xs ys : List (List ℕ)) → netstrings (xs ++ ys) ≡ netstrings xs ++ netstrings ys
unfolding netstrings
netstrings_append [] ys = refl
netstrings_append (x ∷ xs) ys = ap (λ (l : List ℕ). netstring x ++ l) (netstrings_append xs ys) ∙ sym (append_assoc (netstring x) (netstrings xs) (netstrings ys))

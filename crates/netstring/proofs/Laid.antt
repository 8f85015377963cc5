-- A netstring laid or taken in piece by piece: what stands before its contents, the contents, and the comma.
-- Assumes nothing.
use mathlib.Core.Path.{◌≡◌, ap, ap₂, ◌∙◌}
use mathlib.Core.List.{List, [], ◌∷◌, ◌++◌, append_assoc}
use Prim.Native.Nat.{ℕ, suc, ◌+◌, ◌<◌}
use native.Mathlib.Omega.{arith}
use lib.ListN.{length, take, drop, replicate, length-append, get_or-replicate}
use lib.Seq.{take-append-add, drop-cons}
use Rattle.cells.specs.Runs.{fronted, Bytes}
use Rattle.cells.specs.Decimal.{decimal}
use Rattle.cells.proofs.Numbers.{bytes_first, bytes_joined}
use Rattle.cells.proofs.Digits.{bytes_decimal}
use Rattle.netstring.specs.Netstring.{colon, comma, netstring}
use Rattle.netstring.specs.InnerOpening.{opening}

pub netstring_pieces : (part : List ℕ) → (opening (length part) ++ part) ++ (comma ∷ []) ≡ netstring part
unfolding netstring opening
netstring_pieces part = simp append_assoc

pub length_netstring : (part : List ℕ) → length (netstring part) ≡ length (decimal (length part)) + length part + 2
unfolding netstring
length_netstring part = simp length-append (omega arith)

pub bytes_netstring : (part : List ℕ) → Bytes part → Bytes (netstring part)
unfolding netstring
bytes_netstring part h =
    let close = bytes_joined part (comma ∷ []) h (bytes_first comma [] (omega arith) (λ i. omega arith)) in
    bytes_joined (decimal (length part)) (colon ∷ part ++ (comma ∷ [])) (bytes_decimal (length part)) (bytes_first colon (part ++ (comma ∷ [])) (omega arith) close)

pub length_pieces : (part : List ℕ) {piece : List ℕ} → piece ≡ opening (length part) → length (netstring part) ≡ length piece + length part + 1
length_pieces part e = rw (e, ← (netstring_pieces part)) (simp length-append)

-- what opens it: the digits at the front of an array of colons, and one more
pub opened : (n k : ℕ) {left : List ℕ} → left ≡ fronted (decimal n) (replicate 21 colon) → k ≡ length (decimal n) → k < 21 → take (k + 1) left ≡ opening n
unfolding fronted opening
opened n k e same h =
    let long : length (decimal n) < length (replicate 21 colon) = omega arith in
    let one : drop (length (decimal n)) (replicate 21 colon) ≡ colon ∷ drop (suc (length (decimal n))) (replicate 21 colon) =
    drop-cons (replicate 21 colon) (length (decimal n)) 0 long
    ∙ ap (λ (b : ℕ). b ∷ drop (suc (length (decimal n))) (replicate 21 colon)) (get_or-replicate 21 (length (decimal n)) colon 0 (omega arith)) in
    ap₂ take (ap (λ (m : ℕ). m + 1) same) e
    ∙ take-append-add (decimal n) (drop (length (decimal n)) (replicate 21 colon)) 1
    ∙ ap (λ (l : List ℕ). decimal n ++ take 1 l) one

-- The signed text of a request is short: its parts are few, and none is longer than what the request has.
-- Assumes nothing.
use mathlib.Core.Path.{◌≡◌}
use mathlib.Core.Bool.{Bool, true, false, cond}
use mathlib.Core.List.{List, [], ◌∷◌, map}
use mathlib.Core.Option.{none, some}
use Prim.Native.Nat.{ℕ, ◌+◌, ◌*◌, ◌≤◌}
use native.Mathlib.Omega.{arith}
use lib.ListN.{length}
use Rattle.cells.proofs.Digits.{decimal_length}
use Rattle.netstring.specs.Netstring.{netstrings}
use Rattle.netstring.proofs.Laid.{length_netstring}
use Rattle.hashes.specs.declared.Hash.{Hash}
use Rattle.hashes.specs.Hashes.{hash_mask}
use Rattle.armor.specs.Numerals.{number_bytes, mask_bytes}
use Rattle.armor.proofs.Numerals.{length_number_bytes, length_mask_bytes}
use Rattle.names.specs.Extra.{good_extra}
use Rattle.names.specs.Covered.{covered_names}
use Rattle.names.proofs.Sizes.{short_extra, names_few}
use Rattle.lines.specs.Lines.{lines_in}
use Rattle.lines.specs.Values.{covered_value}
use Rattle.lines.proofs.Joined.{covered_short}
use Rattle.signed.specs.SignedText.{carried, orders_nonce, nonce_of, covered_values}
use Rattle.signed.specs.InnerStreamed.{opening_parts}
use Rattle.signed.proofs.Streaming.{size, size_one, size_append, opening_size}

part_short : (part : List ℕ) → length part ≤ 65536 → size (part ∷ []) ≤ length part + 7
part_short part h = omega (arith, size_one part, length_netstring part, decimal_length 4 (length part) (omega arith))

mask_short : (m : ℕ) → size (mask_bytes m ∷ []) ≤ 16
mask_short m = let few = length_mask_bytes m in omega (arith, part_short (mask_bytes m) (omega arith))

number_short : (n : ℕ) → size (number_bytes n ∷ []) ≤ 15
number_short n = let few = (length_number_bytes n).1 in omega (arith, part_short (number_bytes n) (omega arith))

values_short : (f : List ℕ → List ℕ) → ((name : List ℕ) → length (f name) ≤ 16384) → (ns : List (List ℕ)) → size (map f ns) ≤ 16391 * length ns
unfolding netstrings
values_short f h [] = omega arith
values_short f h (n ∷ ns) = let one = h n in omega (arith, size_append (f n ∷ []) (map f ns), part_short (f n) (omega arith), values_short f h ns)

nonce_short : (mask n : ℕ) → size (carried (nonce_of mask n)) ≤ 15
unfolding nonce_of netstrings
nonce_short mask n =
    elim (orders_nonce mask) as (λ (b : Bool). size (carried (cond b (some (number_bytes n)) none)) ≤ 15) [ true ↦ number_short n | false ↦ omega arith ]

-- THE BOUND, far from what a state can take in
pub request_short : (hash : Hash) (mask n t lt : ℕ) (method extra aside head path body : List ℕ) → length method ≤ 16 → good_extra extra ≡ true
    → length head ≤ 16384 → length aside ≤ 16384 → length path ≤ 2048 → length body ≤ 65536
    → size (opening_parts method hash mask extra n t lt) + size (covered_values mask extra aside head) + size (path ∷ body ∷ []) ≤ 2000000
unfolding covered_values
request_short hash mask n t lt method extra aside head path body hm good hh ha hp hb =
    let found : (name : List ℕ) → length (covered_value (lines_in aside) (lines_in head) name) ≤ 16384 = λ name. covered_short aside head name ha hh in
    let named = short_extra extra good in
    omega (
      arith,
      opening_size hash mask n t lt method extra,
      part_short method (omega arith),
      mask_short (hash_mask hash),
      mask_short mask,
      part_short extra (omega arith),
      nonce_short mask n,
      number_short t,
      number_short lt,
      values_short (covered_value (lines_in aside) (lines_in head)) found (covered_names mask extra),
      names_few mask extra good,
      size_append (path ∷ []) (body ∷ []),
      part_short path (omega arith),
      part_short body (omega arith),
    )

-- The three netstrings of a token: how long they are, and where they stand.
-- Assumes nothing.
use mathlib.Core.List.{List, [], ◌∷◌, ◌++◌, append_assoc, append-nil}
use mathlib.Core.Path.{◌≡◌, ap, ◌∙◌}
use Prim.Native.Nat.{ℕ, ◌+◌, ◌^◌, ◌≤◌, ◌<◌}
use native.Mathlib.Omega.{arith}
use lib.ListN.{length, take, length-append}
use Rattle.cells.specs.InnerLaid.{Laid}
use Rattle.cells.proofs.Laid.{laid_more}
use Rattle.cells.proofs.Runs.{front_spliced}
use Rattle.cells.specs.Runs.{Bytes}
use Rattle.cells.specs.Decimal.{decimal}
use Rattle.netstring.specs.Netstring.{netstring, netstrings}
use Rattle.cells.proofs.Digits.{decimal_length, bytes_decimal}
use Rattle.cells.proofs.Numbers.{bytes_joined}
use Rattle.netstring.proofs.Laid.{length_netstring, bytes_netstring}
use Rattle.token.specs.Token.{Token, token_text}

-- the parts' sizes
pub record Sized (key id : List ℕ) (expiry : ℕ) : Type 0 where
  pub key_size : length key ≡ 32
  pub id_some : 1 ≤ length id
  pub id_fits : length id ≤ 64
  pub in_range : expiry < 2 ^ 32

pub short : (key id : List ℕ) (expiry : ℕ) → Sized key id expiry
    → length (netstring key) + length (netstring id) + length (netstring (decimal expiry)) ≤ 118
short key id expiry s =
    let digits : length (decimal expiry) ≤ 10 = decimal_length 9 expiry (omega (arith, s.in_range)) in
    omega (
      arith,
      length_netstring key,
      length_netstring id,
      length_netstring (decimal expiry),
      decimal_length 1 (length key) (omega (arith, s.key_size)),
      decimal_length 1 (length id) (omega (arith, s.id_fits)),
      decimal_length 1 (length (decimal expiry)) (omega arith),
    )

pub length_three : (a b c : List ℕ) → length (netstrings (a ∷ b ∷ c ∷ [])) ≡ length (netstring a) + length (netstring b) + length (netstring c)
unfolding netstrings
length_three a b c = simp length-append (omega arith)

pub length_text : (t : Token) → Sized t.key t.id t.expiry → (1 ≤ length (token_text t)) × (length (token_text t) ≤ 118)
unfolding token_text
length_text t s =
    omega (arith, length_three t.key t.id (decimal t.expiry), short t.key t.id t.expiry s, length_netstring t.key)

pub bytes_text : (t : Token) → Bytes t.key → Bytes t.id → Bytes (token_text t)
unfolding token_text netstrings
bytes_text t h k =
    bytes_joined (netstring t.key) (netstrings (t.id ∷ decimal t.expiry ∷ [])) (bytes_netstring t.key h)
    (bytes_joined (netstring t.id) (netstrings (decimal t.expiry ∷ [])) (bytes_netstring t.id k)
    (bytes_joined (netstring (decimal t.expiry)) [] (bytes_netstring (decimal t.expiry) (bytes_decimal t.expiry)) (λ i. omega arith)))

-- three netstrings laid one after the other at the front of a buffer
pub laid_text : (t : Token) (digits : List ℕ) {out first second third : List ℕ} {key_end id_end end : ℕ} → Sized t.key t.id t.expiry → length out ≡ 118
    → digits ≡ decimal t.expiry → Laid out first 0 key_end (netstring t.key) → Laid first second key_end id_end (netstring t.id)
    → Laid second third id_end end (netstring digits) → take end third ≡ token_text t
unfolding token_text netstrings
laid_text t digits {out} {first} {second} {third} {key_end} {id_end} {end} s long shown p q r =
    let room = short t.key t.id t.expiry s in
    let last : Laid second third id_end end (netstring (decimal t.expiry)) = rw shown at r in
    let all = laid_more (laid_more p q (omega (arith, p.ends, q.ends))) last (omega (arith, p.ends, q.ends, last.ends)) in
    let joined : (netstring t.key ++ netstring t.id) ++ netstring (decimal t.expiry) ≡ netstrings (t.key ∷ t.id ∷ decimal t.expiry ∷ []) =
    simp (append_assoc, append-nil) in
    ap (take end) all.is ∙ front_spliced out _ 0 end (omega arith) (omega (arith, all.ends)) ∙ joined

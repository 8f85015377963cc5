-- Three bytes and four six-bit values are the same 24 bits.
-- Assumes nothing.
use mathlib.Core.Path.{◌≡◌, ap}
use mathlib.Core.List.{[], ◌∷◌}
use Prim.Native.Nat.{ℕ, ◌+◌, ◌*◌, ◌/◌, ◌%◌, ◌<◌}
use native.Mathlib.Omega.{arith}
use lib.ListN.{take}
use Rattle.base_64.specs.Encoding.{group}
use Rattle.base_64.specs.Decoding.{joined, three}

-- each byte in two values
pub in_two : (a b c : ℕ) → a < 256 → b < 256 → c < 256
    → ((group a b c / 262144 % 64 * 64 + group a b c / 4096 % 64) / 16 % 256 ≡ a)
    × ((group a b c / 4096 % 64 * 64 + group a b c / 64 % 64) / 4 % 256 ≡ b)
    × ((group a b c / 64 % 64 * 64 + group a b c % 64) / 1 % 256 ≡ c)
in_two a b c ha hb hc = omega arith

-- each value in two bytes
pub in_bytes : (a b c d : ℕ) → b < 256 → c < 256 → d < 256
    → ((a * 256 + b) / 1024 % 64 ≡ group a b c / 262144 % 64)
    × ((a * 256 + b) / 16 % 64 ≡ group a b c / 4096 % 64)
    × ((b * 256 + c) / 64 % 64 ≡ group a b c / 64 % 64)
    × ((c * 256 + d) / 256 % 64 ≡ group a b c % 64)
in_bytes a b c d hb hc hd = omega arith

in_joined : (w x y z : ℕ) → w < 64 → x < 64 → y < 64 → z < 64
    → (joined w x y z / 65536 % 256 ≡ (w * 64 + x) / 16 % 256)
    × (joined w x y z / 256 % 256 ≡ (x * 64 + y) / 4 % 256)
    × (joined w x y z % 256 ≡ (y * 64 + z) / 1 % 256)
in_joined w x y z hw hx hy hz = omega arith

-- the bytes of the values of three bytes, of two and of one
pub three_back : (a b c : ℕ) → a < 256 → b < 256 → c < 256
    → three (joined (group a b c / 262144 % 64) (group a b c / 4096 % 64) (group a b c / 64 % 64) (group a b c % 64)) ≡ a ∷ b ∷ c ∷ []
three_back a b c ha hb hc =
    let e = in_joined (group a b c / 262144 % 64) (group a b c / 4096 % 64) (group a b c / 64 % 64) (group a b c % 64) (omega arith) (omega arith) (omega arith) (omega arith) in
    let f = in_two a b c ha hb hc in
    cc

pub two_back : (a b : ℕ) → a < 256 → b < 256
    → take 2 (three (joined (group a b 0 / 262144 % 64) (group a b 0 / 4096 % 64) (group a b 0 / 64 % 64) 0)) ≡ a ∷ b ∷ []
two_back a b ha hb =
    let e : group a b 0 % 64 ≡ 0 = omega arith in
    let o : 0 < 256 = omega arith in
    rw (e) at (ap (take 2) (three_back a b 0 ha hb o))

pub one_back : (a : ℕ) → a < 256 → take 1 (three (joined (group a 0 0 / 262144 % 64) (group a 0 0 / 4096 % 64) 0 0)) ≡ a ∷ []
one_back a ha =
    let e : group a 0 0 / 64 % 64 ≡ 0 = omega arith in
    let f : group a 0 0 % 64 ≡ 0 = omega arith in
    let o : 0 < 256 = omega arith in
    rw (e, f) at (ap (take 1) (three_back a 0 0 ha o o))

-- the bytes of values whose spare bits are zero
pub whole_three : (w x y z : ℕ) → w < 64 → x < 64 → y < 64 → z < 64
    → group (joined w x y z / 65536 % 256) (joined w x y z / 256 % 256) (joined w x y z % 256) ≡ joined w x y z
whole_three w x y z hw hx hy hz = omega arith

pub whole_two : (w x y : ℕ) → w < 64 → x < 64 → y < 64 → y % 4 ≡ 0
    → group (joined w x y 0 / 65536 % 256) (joined w x y 0 / 256 % 256) 0 ≡ joined w x y 0
whole_two w x y hw hx hy e = omega (arith, whole_three w x y 0 hw hx hy (omega arith))

pub whole_one : (w x : ℕ) → w < 64 → x < 64 → x % 16 ≡ 0 → group (joined w x 0 0 / 65536 % 256) 0 0 ≡ joined w x 0 0
whole_one w x hw hx e = omega arith

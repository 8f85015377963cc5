-- Aids of the contracts of this crate's own steps. No public contract cites them.
-- Assumes nothing.
use Rattle.std.specs.Prelude.{◌≡◌, Option, Some, None, Bool, cond, not, ◌&&◌, List, [], ℕ, ◌+◌, ◌-◌, ◌*◌, ◌/◌, ◌%◌, ◌^◌, ◌<◌, eqb, ltb, length, get_or}
use Rattle.base_64.specs.Alphabet.{character, pad, six_bits}
use Rattle.base_64.specs.Decoding.{Decoding, nothing, bytes}

-- the first n entries of a table are the values of a function from 0 on
pub record Lists (f : ℕ → ℕ) (n : ℕ) (table : List ℕ) : Type 0 where
  pub at : (k : ℕ) → k < n → get_or table k 0 ≡ f k

-- the bytes of a decoding, and none of nothing
abbrev pub content : Decoding → List ℕ
content nothing = []
content (bytes bs) = bs

-- n bytes, and then those of the rest
abbrev pub plus : ℕ → Option ℕ → Option ℕ
plus n None = None
plus n (Some m) = Some (n + m)

-- whether four values are those of a full group
abbrev pub full_of : ℕ → ℕ → ℕ → ℕ → Bool
full_of w x y z = ltb w 64 && (ltb x 64 && (ltb y 64 && ltb z 64))

-- whether a last group has one byte, by its first values w and x, and two, by w, x and y
abbrev pub one_of : List ℕ → ℕ → ℕ → Bool
one_of group w x = eqb (get_or group 3 0) pad && (eqb (get_or group 2 0) pad && (ltb w 64 && (ltb x 64 && eqb (x % 16) 0)))

abbrev pub two_of : List ℕ → ℕ → ℕ → ℕ → Bool
two_of group w x y =
    eqb (get_or group 3 0) pad && (not (eqb (get_or group 2 0) pad) && (ltb w 64 && (ltb x 64 && (ltb y 64 && eqb (y % 4) 0))))

-- how many bytes a group has, by its values, if it is one that stands last, or before others
abbrev pub size_of_group : List ℕ → Bool → ℕ → ℕ → ℕ → ℕ → Option ℕ
size_of_group group last w x y z =
    cond (full_of w x y z) (Some 3) (cond (last && one_of group w x) (Some 1) (cond (last && two_of group w x y) (Some 2) None))

abbrev pub size_first : List ℕ → Bool → Option ℕ
size_first group last =
    size_of_group group last (six_bits (get_or group 0 0)) (six_bits (get_or group 1 0)) (six_bits (get_or group 2 0)) (six_bits (get_or group 3 0))

-- byte k of a group, from the two values that hold it; and byte i of what a text encodes
abbrev pub eight_of : ℕ → ℕ → ℕ → ℕ
eight_of a b k = (a * 64 + b) / 2 ^ (4 - 2 * k) % 256

abbrev pub byte_of : List ℕ → ℕ → ℕ
byte_of text i = eight_of (six_bits (get_or text (i + i / 3) 0)) (six_bits (get_or text (i + i / 3 + 1) 0)) (i % 3)

-- value k of a group, from the two bytes that hold it; and character i of what a run is encoded to
abbrev pub six_of : ℕ → ℕ → ℕ → ℕ
six_of a b k = (a * 256 + b) / 2 ^ (10 - 6 * k % 8) % 64

abbrev pub byte_at : ℕ → ℕ
byte_at i = i / 4 * 3 + 3 * (i % 4) / 4

abbrev pub character_of : List ℕ → ℕ → ℕ
character_of bs i = cond (ltb (byte_at i) (length bs)) (character (six_of (get_or bs (byte_at i) 0) (get_or bs (byte_at i + 1) 0) (i % 4))) pad
